use Rattle.std.proofs.Common.{◌≡◌}
use Rattle.sq_graph.specs.Blocks.{HasBlock}
use Rattle.sq_graph.specs.Words.{block_words}
use Rattle.sq_chain.specs.Least.{stands_at}
use Rattle.sq_chain.proofs.around.far_before.Given as goal

abbrev pub invariant-loop-slot : goal.invariant-loop-slot
invariant-loop-slot l = record {
  has : HasBlock l.graph.graph l.block;
  at : l.at ≡ stands_at block_words l.graph.graph l.block;
}
