use Rattle.sq_arena.proofs.FullNodes.{FirstLinked}
use Rattle.sq_arena.proofs.Arena.from_values.Given as goal

abbrev pub invariant-loop-value : goal.invariant-loop-value
invariant-loop-value g l = FirstLinked l.links l.values l.value-index
