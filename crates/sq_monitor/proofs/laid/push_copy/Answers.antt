use Rattle.std.proofs.Common.{◌≡◌, ◌+◌, ◌-◌, ◌++◌, length, replicate, ap, ◌∙◌, arith}
use Rattle.std.proofs.lemmas.Grind.{common_steps}
use Rattle.sq_pages.specs.Pages.{cells_of}
use Rattle.sq_monitor.specs.FileCells.{file_cells}
use Rattle.sq_monitor.proofs.Regions.{cells_length, cells_laid}
use Rattle.sq_monitor.proofs.laid.push_copy.Goals as goal

pub lay_all-requires : goal.lay_all-requires
lay_all-requires c =
    let all : c.deref.result.now ≡ c.args.bytes.now ++ replicate (c.args.segment.now.filesz - length c.args.bytes.now) 0 = c.deref.ensures.value ∙ c.in_ok-all.ensures in
    let one : length c.deref-2.result.now ≡ length c.deref.result.now = ap length c.deref-2.ensures.value ∙ cells_length c.args.relocs.now c.args.segment.now.address c.deref.result.now c.in_ok-cells.cells.items c.in_ok-cells.ensures in
    let two : length c.deref.result.now ≡ length c.args.bytes.now + (c.args.segment.now.filesz - length c.args.bytes.now) = ap length all ∙ grind (arith, common_steps) in
    omega (arith, one, two, c.requires.most, c.requires.copy_end)

pub returns-clause-memory : goal.returns-clause-memory
returns-clause-memory c =
    let all : c.deref.result.now ≡ c.args.bytes.now ++ replicate (c.args.segment.now.filesz - length c.args.bytes.now) 0 = c.deref.ensures.value ∙ c.in_ok-all.ensures in
    cells_laid c.args.relocs.now (cells_of c.args.laid.now.memory) (cells_of c.lay_all.new.self) c.args.segment.now.load_address c.args.segment.now.address (c.args.bytes.now ++ replicate (c.args.segment.now.filesz - length c.args.bytes.now) 0) c.deref-2.result.now
    (rw c.deref-2.ensures.value (c.in_ok-cells.ensures ∙ ap (file_cells c.args.relocs.now c.args.segment.now.address) all)) c.in_ok-lay_all.ensures.cells
