use Rattle.std.proofs.Common.{map, ap, ◌∙◌}
use Rattle.sq_system.specs.Starts.{start_of}
use Rattle.sq_pages.specs.Pages.{cells_of, over, same_cell}
use Rattle.sq_tagged.specs.declared.values.Cell.TheVariants.{Byte as ByteOf}
use Rattle.law_follow.specs.Values.{Byte}
use Rattle.sq_monitor.proofs.Regions.{ram_laid}
use Rattle.sq_monitor.proofs.start.lay_ram.Goals as goal

pub returns : goal.returns
returns c =
    ram_laid (start_of c.args.start.now) (cells_of c.args.memory.now) (cells_of c.lay_same.new.self) (cells_of c.lay_all.new.self) _ _ c.deref-2.result.now
    c.requires.room.above_base c.from.ensures (c.requires.pointer)
    (rw c.deref-2.ensures.value (c.in_ok-cells.ensures ∙ ap (map Byte) (c.deref.ensures.value ∙ c.in_ok-area.ensures.bytes))) (c.in_ok-lay_same.ensures.cells ∙ ap (λ p. over (cells_of c.args.memory.now) (same_cell c.from.result p (ByteOf 0))) c.from-2.ensures) c.in_ok-lay_all.ensures.cells
