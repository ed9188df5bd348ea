use Rattle.std.proofs.Common.{◌≡◌, ℕ, false}
use Rattle.sq_lookup.specs.Names.{is_listed}
use Rattle.sq_chain.specs.Least.{falls_short}
use Rattle.sq_chain.proofs.Adding.{Added}
use Rattle.sq_chain.proofs.least.add_short.Given as goal

abbrev pub invariant-loop-name : goal.invariant-loop-name
invariant-loop-name l = record {
  added : Added (is_listed l.initial.wide) (falls_short l.graph.graph (is_listed l.initial.wide)) (is_listed l.wide) l.graph.graph l.name-index;
  same : l.more ≡ false → (n : ℕ) → is_listed l.wide n ≡ is_listed l.initial.wide n;
}
