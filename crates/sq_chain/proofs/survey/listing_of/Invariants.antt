use Rattle.std.proofs.Common.{◌≡◌, ◌+◌, ◌<◌, ◌++◌, ℕ, map, sum_by, length}
use Rattle.std.specs.List.{All}
use Rattle.sq_graph.specs.Blocks.{named}
use Rattle.sq_graph.specs.Cursor.{IsPlace}
use Rattle.sq_graph.specs.Words.{block_words}
use Rattle.sq_layout.proofs.Walks.{blocks_from}
use Rattle.sq_chain.specs.declared.survey.Extent.{Extent}
use Rattle.sq_chain.specs.Surveys.{extent_of, extents_of}
use Rattle.sq_chain.proofs.survey.listing_of.Given as goal

abbrev pub invariant-loop-place : goal.invariant-loop-place
invariant-loop-place l = record {
  place : IsPlace (named l.graph.graph.blocks) l.place;
  extents : l.extents.items ++ map extent_of (blocks_from l.graph.graph.blocks l.place) ≡ extents_of l.graph.graph;
  words : l.words + sum_by block_words (blocks_from l.graph.graph.blocks l.place) ≡ sum_by block_words l.graph.graph.blocks;
  names : All (λ (n : ℕ). n < l.names) (map (λ (e : Extent). e.name) l.extents.items);
}

abbrev pub decreases-loop-place : goal.decreases-loop-place
decreases-loop-place l = length (blocks_from l.graph.graph.blocks l.place)
