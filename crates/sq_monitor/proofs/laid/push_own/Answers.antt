use Rattle.std.proofs.Common.{◌≡◌, ◌-◌, length, refl, ap, ◌∙◌, arith}
use Rattle.sq_memory.specs.Cells.{map_cells}
use Rattle.sq_pages.specs.Pages.{cells_of}
use Rattle.sq_tagged.specs.Views.{cell_of}
use Rattle.sq_monitor.proofs.Regions.{cells_length, own_laid}
use Rattle.sq_monitor.proofs.laid.push_own.Goals as goal

pub lay_all-requires : goal.lay_all-requires
lay_all-requires c =
    let size : length c.deref.result.now ≡ length c.args.bytes.now = ap length c.deref.ensures.value ∙ cells_length c.args.relocs.now c.args.segment.now.address c.args.bytes.now c.in_ok-cells.cells.items c.in_ok-cells.ensures in
    omega (arith, size, c.requires.most, c.requires.end)

pub returns-clause-memory : goal.returns-clause-memory
returns-clause-memory c =
    own_laid c.args.relocs.now (cells_of c.args.laid.now.memory) (cells_of c.lay_all.new.self) (map_cells cell_of (cells_of c.lay_zeros.new.memory)) c.args.segment.now.address c.args.bytes.now
    (c.args.segment.now.memsz - length c.args.bytes.now) _ _ c.in_ok-cells.cells.items c.in_ok-cells.ensures
    (c.in_ok-lay_all.ensures.cells ∙ rw c.deref.ensures.value refl) c.in_ok-lay_zeros.ensures (omega arith) (omega (arith, c.requires.most))
