use Rattle.std.proofs.Common.{◌≡◌, ◌*◌, min}
use Rattle.sq_pages.specs.Pages.{cells_of, over, same_cell}
use Rattle.sq_pages.proofs.pages.Pages.lay_same.Given as goal

-- the addresses of the pages so far
abbrev pub invariant-loop-page : goal.invariant-loop-page
invariant-loop-page g l = cells_of l.self ≡ over (cells_of l.initial.self) (same_cell l.low (min l.high (4096 * l.page)) l.cell)
