use Rattle.sq_graph.specs.Slotted.{IsSlotted}
use Rattle.sq_graph.specs.Words.{words_of}
use Rattle.sq_drive.specs.Replaying.{IsLess}
use Rattle.sq_top.proofs.folding.settle_and_fold.Given as goal

abbrev pub invariant-loop-alloc : goal.invariant-loop-alloc
invariant-loop-alloc l = record {
  less : IsLess l.fn.graph.graph l.graph.graph;
  slotted : IsSlotted l.graph.graph;
}

abbrev pub decreases-loop-alloc : goal.decreases-loop-alloc
decreases-loop-alloc l = words_of l.graph.graph
