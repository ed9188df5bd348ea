use Rattle.sq_graph.proofs.Settling.{Staying}
use Rattle.sq_graph.proofs.fates.staying_bodies.Given as goal

abbrev pub invariant-loop-procedure : goal.invariant-loop-procedure
invariant-loop-procedure l = Staying l.procedure l.fates l.graph.graph.procedures l.fn.items.items l.items.items l.bodies.items
