use Rattle.std.proofs.Common.{arith}
use Rattle.sq_graph.proofs.PartLoops.{slots_step, slots_fit}
use Rattle.sq_graph.proofs.build.slots_of.Goals as goal

pub overflow_add-start : goal.overflow_add-start
overflow_add-start c =
    omega (arith, slots_fit c.loop-part.part-index c.loop-part.start c.part-item.result c.args.blocks.now c.loop-part.slots.items c.loop-part.invariant (omega arith) c.part-item.is, c.requires)

pub loop-part-preserved : goal.loop-part-preserved
loop-part-preserved c =
    slots_step c.loop-part.part-index c.loop-part.start c.part-item.result c.args.blocks.now c.loop-part.slots.items c.push.new.self.items c.loop-part.invariant (omega arith) c.part-item.is c.in_ok-push.ensures.items
