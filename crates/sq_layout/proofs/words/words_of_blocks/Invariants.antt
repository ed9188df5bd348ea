use Rattle.std.proofs.Common.{◌≡◌, ◌+◌, sum_by, length}
use Rattle.sq_graph.specs.Blocks.{named}
use Rattle.sq_graph.specs.Cursor.{IsPlace}
use Rattle.sq_graph.specs.Words.{block_words}
use Rattle.sq_layout.proofs.Walks.{blocks_from}
use Rattle.sq_layout.proofs.words.words_of_blocks.Given as goal

abbrev pub invariant-loop-place : goal.invariant-loop-place
invariant-loop-place l = record {
  place : IsPlace (named l.g.graph.blocks) l.place;
  words : l.words + sum_by block_words (blocks_from l.g.graph.blocks l.place) ≡ sum_by block_words l.g.graph.blocks;
}

abbrev pub decreases-loop-place : goal.decreases-loop-place
decreases-loop-place l = length (blocks_from l.g.graph.blocks l.place)
