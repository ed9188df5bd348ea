use Rattle.std.proofs.Common.{◌≡◌, ◌+◌, length}
use Rattle.sq_graph.specs.Blocks.{named}
use Rattle.sq_graph.specs.Cursor.{rest_from}
use Rattle.sq_graph.specs.Words.{words_of}
use Rattle.sq_chain.proofs.Fallen.{FallsFrom}
use Rattle.sq_chain.proofs.carry.fall_each.Given as goal

abbrev pub invariant-loop-place : goal.invariant-loop-place
invariant-loop-place l = record {
  from : FallsFrom l.initial.graph.graph l.graph.graph l.place;
  words : words_of l.graph.graph + l.falls ≡ words_of l.initial.graph.graph;
}

abbrev pub decreases-loop-place : goal.decreases-loop-place
decreases-loop-place l = length (rest_from (named l.graph.graph.blocks) l.place)
