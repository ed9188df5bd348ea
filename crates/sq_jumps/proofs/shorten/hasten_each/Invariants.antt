use Rattle.std.proofs.Common.{◌≡◌, drop}
use Rattle.std.specs.List.{All}
use Rattle.sq_graph.specs.Blocks.{HasBlock}
use Rattle.sq_jumps.specs.Shorten.{hastened_each}
use Rattle.sq_jumps.proofs.shorten.hasten_each.Given as goal

abbrev pub invariant-loop-block : goal.invariant-loop-block
invariant-loop-block l = record {
  same : hastened_each l.blocks l.initial.graph.graph ≡ hastened_each (drop l.block-index l.blocks) l.graph.graph;
  there : All (HasBlock l.graph.graph) (drop l.block-index l.blocks);
}
