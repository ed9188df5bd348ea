use Rattle.std.proofs.Common.{◌≡◌, ℕ}
use Rattle.sq_lookup.specs.Names.{is_listed}
use Rattle.sq_chain.specs.Least.{after_rounds}
use Rattle.sq_chain.proofs.least.least_widening.Given as goal

abbrev pub invariant-loop-round : goal.invariant-loop-round
invariant-loop-round l = (n : ℕ) → is_listed l.wide n ≡ after_rounds l.graph.graph l._round-index n
