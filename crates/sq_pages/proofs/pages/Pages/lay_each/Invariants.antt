use Rattle.std.proofs.Common.{◌≡◌, ◌≤◌, max}
use Rattle.sq_pages.specs.Pages.{cells_of, over, same_cell}
use Rattle.sq_pages.proofs.pages.Pages.lay_each.Given as goal

abbrev pub invariant-loop-address : goal.invariant-loop-address
invariant-loop-address g l = record {
  cells : cells_of l.self ≡ over (cells_of l.initial.self) (same_cell l.low l.address l.cell);
  most : l.address ≤ max l.low l.high;
}
