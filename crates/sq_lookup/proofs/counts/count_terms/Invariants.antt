use Rattle.std.proofs.Common.{◌≡◌, ℕ, take}
use Rattle.sq_graph.specs.Uses.{terms_uses}
use Rattle.sq_lookup.specs.Counts.{count_at, times_named}
use Rattle.sq_lookup.proofs.counts.count_terms.Given as goal

abbrev pub invariant-loop-name : goal.invariant-loop-name
invariant-loop-name l = (n : ℕ) → count_at l.counts.items n ≡ times_named (terms_uses (take l.name-index l.graph.graph.blocks)) n
