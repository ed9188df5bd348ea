use Rattle.std.proofs.Common.{ℕ, take}
use Rattle.std.specs.List.{All}
use Rattle.sq_graph.specs.Blocks.{HasProcedure}
use Rattle.sq_outline.specs.Called.{MayCall}
use Rattle.sq_outline.proofs.call.find_call.Given as goal

abbrev pub invariant-loop-name : goal.invariant-loop-name
invariant-loop-name l = All (λ block. (procedure : ℕ) → HasProcedure l.graph.graph procedure → ¬ MayCall l.graph.graph block procedure) (take l.name-index l.names)
