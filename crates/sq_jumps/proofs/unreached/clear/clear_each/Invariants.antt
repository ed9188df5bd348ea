use Rattle.std.proofs.Common.{◌≡◌, drop}
use Rattle.std.specs.List.{All}
use Rattle.sq_graph.specs.Blocks.{HasBlock}
use Rattle.sq_graph.specs.Room.{KeepsTotal}
use Rattle.sq_jumps.specs.UnreachedClear.{cleared_each}
use Rattle.sq_jumps.proofs.unreached.clear.clear_each.Given as goal

abbrev pub invariant-loop-block : goal.invariant-loop-block
invariant-loop-block l = record {
  there : All (HasBlock l.graph.graph) (drop l.block-index l.blocks);
  same : cleared_each l.blocks l.initial.graph.graph ≡ cleared_each (drop l.block-index l.blocks) l.graph.graph;
  total : KeepsTotal l.initial.graph l.graph;
}
