use Rattle.std.proofs.Common.{◌≡◌, ℕ, ◌≤◌}
use Rattle.sq_graph.specs.Blocks.{HasBlock}
use Rattle.sq_graph.specs.Words.{block_words}
use Rattle.sq_chain.specs.Around.{AreSeenBefore}
use Rattle.sq_chain.specs.Least.{stands_at}
use Rattle.sq_chain.proofs.around.look_ahead.Given as goal

abbrev pub invariant-loop-slot : goal.invariant-loop-slot
invariant-loop-slot l = record {
  has : HasBlock l.graph.graph l.block;
  at : l.at ≡ stands_at block_words l.graph.graph l.block;
  near : (seam : ℕ) → l.span.first ≤ seam → seam ≤ l.span.last → AreSeenBefore l.graph.graph l.shift l.wide seam l.block;
}
