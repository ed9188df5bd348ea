use Rattle.std.proofs.Common.{arith}
use Rattle.sq_graph.proofs.PartLoops.{bodies_step, bodies_fit}
use Rattle.sq_graph.proofs.build.bodies.Goals as goal

pub overflow_add-start : goal.overflow_add-start
overflow_add-start c =
    omega (arith, bodies_fit c.loop-part.part-index c.loop-part.start c.part-item.result c.args.procedures.now c.loop-part.bodies.items c.loop-part.invariant (omega arith) c.part-item.is, c.requires)

pub loop-part-preserved : goal.loop-part-preserved
loop-part-preserved c =
    bodies_step c.loop-part.part-index c.loop-part.start c.part-item.result c.args.procedures.now c.loop-part.bodies.items c.push.new.self.items c.loop-part.invariant (omega arith) c.part-item.is c.in_ok-push.ensures.items
