use Rattle.sq_graph.proofs.PartLoops.{FirstBodies}
use Rattle.sq_graph.proofs.build.bodies.Given as goal

abbrev pub invariant-loop-part : goal.invariant-loop-part
invariant-loop-part l = FirstBodies l.part-index l.start l.procedures l.bodies.items
