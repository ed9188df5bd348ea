use Rattle.std.proofs.Common.{ℕ, ◌<◌}
use Rattle.std.specs.Prelude.{slice_index}
use Rattle.sq_tail.specs.Bodies.{IsBodyPair}
use Rattle.sq_tail.proofs.bodies.find_ahead.Given as goal

abbrev pub invariant-loop-place : goal.invariant-loop-place
invariant-loop-place l = (i j : ℕ) → j < i → i < l.place → ¬ IsBodyPair l.graph.graph (slice_index l.names i) (slice_index l.names j)
