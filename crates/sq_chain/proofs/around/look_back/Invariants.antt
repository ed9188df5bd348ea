use Rattle.std.proofs.Common.{◌≡◌, ◌⊎◌, ℕ, false}
use Rattle.sq_arena.specs.Entries.{ContainsKey, before}
use Rattle.sq_graph.specs.Blocks.{named, HasBlock}
use Rattle.sq_graph.specs.Words.{block_words}
use Rattle.sq_chain.specs.Least.{stands_at}
use Rattle.sq_chain.specs.Settled.{is_missed}
use Rattle.sq_chain.specs.Widening.{EndsInBranch}
use Rattle.sq_chain.proofs.around.look_back.Given as goal

abbrev pub invariant-loop-slot : goal.invariant-loop-slot
invariant-loop-slot l = record {
  has : HasBlock l.graph.graph l.block;
  at : l.at ≡ stands_at block_words l.graph.graph l.block;
  near : (n : ℕ) → EndsInBranch l.graph.graph n → ContainsKey (before (named l.graph.graph.blocks) l.span.from) n → ContainsKey (before (named l.graph.graph.blocks) l.block) n ⊎ (is_missed l.graph.graph l.shift l.wide n ≡ false);
}
