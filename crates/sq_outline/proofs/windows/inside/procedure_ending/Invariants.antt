use Rattle.std.proofs.Common.{ℕ, ◌≤◌, ◌<◌}
use Rattle.sq_outline.specs.WindowsInside.{MayCallInside}
use Rattle.sq_outline.proofs.windows.inside.procedure_ending.Given as goal

abbrev pub invariant-loop-procedure : goal.invariant-loop-procedure
invariant-loop-procedure l = (procedure : ℕ) → l.initial.procedure ≤ procedure → procedure < l.procedure → ¬ MayCallInside l.graph.graph l.place.block l.place.at procedure
