use Rattle.std.proofs.Common.{◌≡◌, drop}
use Rattle.sq_graph.specs.Room.{KeepsTotal}
use Rattle.sq_jumps.specs.UnreachedClear.{without_each, MayGo}
use Rattle.sq_jumps.proofs.unreached.clear.remove_each.Given as goal

abbrev pub invariant-loop-block : goal.invariant-loop-block
invariant-loop-block l = record {
  may : MayGo l.graph.graph (drop l.block-index l.blocks);
  same : without_each l.blocks l.initial.graph.graph ≡ without_each (drop l.block-index l.blocks) l.graph.graph;
  total : KeepsTotal l.initial.graph l.graph;
}
