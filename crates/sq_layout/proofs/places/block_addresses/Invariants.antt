use Rattle.std.proofs.Common.{nat_eq, length}
use Rattle.std.specs.HashMap.{get}
use Rattle.sq_graph.specs.Blocks.{named}
use Rattle.sq_graph.specs.Cursor.{IsPlace}
use Rattle.sq_layout.proofs.Placed.{IsPlaced}
use Rattle.sq_layout.proofs.Walks.{blocks_from}
use Rattle.sq_layout.proofs.places.block_addresses.Given as goal

abbrev pub invariant-loop-place : goal.invariant-loop-place
invariant-loop-place l = record {
  place : IsPlace (named l.g.graph.blocks) l.place;
  placed : IsPlaced l.g.graph.blocks l.lo (get nat_eq l.addresses) (blocks_from l.g.graph.blocks l.place) l.at;
}

abbrev pub decreases-loop-place : goal.decreases-loop-place
decreases-loop-place l = length (blocks_from l.g.graph.blocks l.place)
