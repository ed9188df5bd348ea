use Rattle.std.proofs.Common.{◌≡◌, ◌+◌, length, take}
use Rattle.sq_graph.specs.Blocks.{items_of_blocks}
use Rattle.sq_live.specs.Exits.{position_at, exits_of}
use Rattle.sq_live.proofs.PlaceSets.{ArePlacedBefore}
use Rattle.sq_live.proofs.places.block_places.Given as goal

abbrev pub invariant-loop-k : goal.invariant-loop-k
invariant-loop-k l = record {
  size : length l.sets.items ≡ length (items_of_blocks (take l.k l.g.graph.blocks)) + l.k;
  room : length l.spans.items ≡ length l.positions;
  places : ArePlacedBefore l.calls (exits_of (position_at l.positions) (length l.names) l.g.graph) l.nodes l.g.graph.blocks l.sets.items l.spans.items l.k;
}
