use Rattle.std.specs.List.{All}
use Rattle.sq_outline.specs.Still.{IsDying}
use Rattle.sq_outline.proofs.callers.bodies_of.Given as goal

abbrev pub invariant-loop-name : goal.invariant-loop-name
invariant-loop-name l = All (IsDying l.graph.graph) l.bodies.items
