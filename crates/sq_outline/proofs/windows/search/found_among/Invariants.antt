use Rattle.std.proofs.Common.{◌≡◌, ◌<◌, ℕ, Some, slice_get}
use Rattle.sq_outline.specs.WindowsMade.{items_at, IsWindowMade}
use Rattle.sq_outline.specs.WindowsSearch.{standing}
use Rattle.sq_outline.proofs.windows.search.found_among.Given as goal

abbrev pub invariant-loop-number : goal.invariant-loop-number
invariant-loop-number l =
    (m block at link saving : ℕ) → m < l.number → slice_get l.classes m ≡ Some (standing l.graph.graph (items_at l.graph.graph block at l.n)) → ¬ IsWindowMade l.graph.graph block at l.n link saving
