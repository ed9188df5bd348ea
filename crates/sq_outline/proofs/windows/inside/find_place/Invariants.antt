use Rattle.std.proofs.Common.{ℕ, take}
use Rattle.std.specs.List.{All}
use Rattle.sq_graph.specs.Blocks.{HasProcedure}
use Rattle.sq_outline.specs.WindowsInside.{MayCallInside}
use Rattle.sq_outline.proofs.windows.inside.find_place.Given as goal

abbrev pub invariant-loop-place : goal.invariant-loop-place
invariant-loop-place l = All (λ p. (procedure : ℕ) → HasProcedure l.graph.graph procedure → ¬ MayCallInside l.graph.graph p.block p.at procedure) (take l.place-index l.line)
