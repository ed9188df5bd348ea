use Rattle.std.proofs.Common.{◌≡◌, Some}
use Rattle.sq_memory.specs.Cells.{cells_from}
use Rattle.sq_pages.specs.Pages.{cells_of}
use Rattle.sq_pages.proofs.pages.Pages.get_all.Given as goal

abbrev pub invariant-loop-i : goal.invariant-loop-i
invariant-loop-i g l = cells_from (cells_of l.self) l.address l.i ≡ Some l.cells.items
