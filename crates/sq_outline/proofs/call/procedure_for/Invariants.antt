use Rattle.std.proofs.Common.{ℕ, ◌≤◌, ◌<◌}
use Rattle.sq_outline.specs.Called.{MayCall}
use Rattle.sq_outline.proofs.call.procedure_for.Given as goal

abbrev pub invariant-loop-procedure : goal.invariant-loop-procedure
invariant-loop-procedure l = (procedure : ℕ) → l.fn.span.first ≤ procedure → procedure < l.procedure → ¬ MayCall l.graph.graph l.block procedure
