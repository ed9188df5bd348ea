use Rattle.std.proofs.Common.{◌<◌, ◌≤◌, ◌-◌, ℕ}
use Rattle.sq_finger.specs.Runs.{AreRunNumbers}
use Rattle.sq_outline.specs.WindowsMade.{IsWindowMade}
use Rattle.sq_outline.proofs.windows.search.find_window.Given as goal

abbrev pub invariant-loop-n : goal.invariant-loop-n
invariant-loop-n l = record {
  runs : AreRunNumbers (l.n - 1) l.items.items l.numbers.items;
  none : (n block at link saving : ℕ) → 3 ≤ n → n < l.n → ¬ IsWindowMade l.graph.graph block at n link saving;
}
