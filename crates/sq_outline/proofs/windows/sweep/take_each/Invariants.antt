use Rattle.sq_outline.specs.WindowsKinds.{AreKinds}
use Rattle.sq_outline.specs.WindowsProposed.{AreFound}
use Rattle.sq_outline.specs.WindowsSwept.{IsSweeping, AreSwept, HasBlocksOf}
use Rattle.sq_outline.proofs.windows.sweep.take_each.Given as goal

abbrev pub invariant-loop-window : goal.invariant-loop-window
invariant-loop-window l = record {
  sweeping : IsSweeping l.graph.graph l.taken l.after;
  swept : AreSwept l.fn.graph.graph l.fn.taken l.graph.graph l.taken l.fn.savings l.after;
  blocks : HasBlocksOf l.fn.graph.graph l.graph.graph;
  kinds : AreKinds l.graph.graph l.blocks.items;
  found : AreFound l.graph.graph l.windows;
}
