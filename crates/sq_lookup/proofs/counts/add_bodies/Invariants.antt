use Rattle.std.proofs.Common.{◌≡◌, ◌+◌, ℕ, take}
use Rattle.std.specs.List.{flat_map}
use Rattle.sq_graph.specs.Uses.{items_uses}
use Rattle.sq_lookup.specs.Counts.{count_at, times_named}
use Rattle.sq_lookup.proofs.counts.add_bodies.Given as goal

abbrev pub invariant-loop-procedure : goal.invariant-loop-procedure
invariant-loop-procedure l = (n : ℕ) → count_at l.counts.items n ≡ times_named (flat_map (λ p. items_uses p.body) (take l.procedure l.graph.graph.procedures)) n + count_at l.initial.counts.items n
