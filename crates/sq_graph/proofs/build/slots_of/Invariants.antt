use Rattle.sq_graph.proofs.PartLoops.{FirstSlots}
use Rattle.sq_graph.proofs.build.slots_of.Given as goal

abbrev pub invariant-loop-part : goal.invariant-loop-part
invariant-loop-part l = FirstSlots l.part-index l.start l.blocks l.slots.items
