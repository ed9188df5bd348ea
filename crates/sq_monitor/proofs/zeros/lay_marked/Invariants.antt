use Rattle.std.proofs.Common.{◌≡◌, ◌*◌, min}
use Rattle.sq_memory.specs.Cells.{map_cells}
use Rattle.sq_pages.specs.Pages.{cells_of, over}
use Rattle.sq_tagged.specs.Views.{cell_of}
use Rattle.sq_monitor.specs.Zeros.{marked_zeros}
use Rattle.sq_monitor.proofs.zeros.lay_marked.Given as goal

-- the addresses of the pages so far
abbrev pub invariant-loop-page : goal.invariant-loop-page
invariant-loop-page l = map_cells cell_of (cells_of l.memory) ≡ over (map_cells cell_of (cells_of l.initial.memory)) (marked_zeros l.relocs l.pages l.low (min l.high (4096 * l.page)))
