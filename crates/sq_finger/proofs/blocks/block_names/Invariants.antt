use Rattle.std.proofs.Common.{◌≡◌, ◌++◌, length}
use Rattle.sq_arena.specs.Entries.{keys}
use Rattle.sq_graph.specs.Blocks.{named}
use Rattle.sq_graph.specs.Cursor.{IsPlace, rest_from}
use Rattle.sq_graph.specs.Parts.{names_of}
use Rattle.sq_finger.proofs.blocks.block_names.Given as goal

abbrev pub invariant-loop-place : goal.invariant-loop-place
invariant-loop-place l = record {
  place : IsPlace (named l.graph.graph.blocks) l.place;
  names : l.names.items ++ keys (rest_from (named l.graph.graph.blocks) l.place) ≡ names_of l.graph.graph;
}

abbrev pub decreases-loop-place : goal.decreases-loop-place
decreases-loop-place l = length (rest_from (named l.graph.graph.blocks) l.place)
