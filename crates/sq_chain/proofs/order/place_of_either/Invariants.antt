use Rattle.std.proofs.Common.{ℕ, ◌≢◌, ◌<◌, get_or, map}
use Rattle.sq_chain.specs.declared.survey.Extent.{Extent}
use Rattle.sq_chain.proofs.order.place_of_either.Given as goal

abbrev pub invariant-loop-i : goal.invariant-loop-i
invariant-loop-i l = record {
  one : (k : ℕ) → k < l.i → get_or (map (λ (e : Extent). e.name) l.extents) k 0 ≢ l.one;
  other : (k : ℕ) → k < l.i → get_or (map (λ (e : Extent). e.name) l.extents) k 0 ≢ l.other;
}
