use Rattle.std.proofs.Common.{◌≡◌, length, vec_capacity}
use Rattle.sq_graph.specs.Cursor.{rest_from}
use Rattle.sq_graph.proofs.Packing.{Packs}
use Rattle.sq_graph.proofs.gaps.pack.Given as goal

abbrev pub invariant-loop-place : goal.invariant-loop-place
invariant-loop-place l = record {
  packs : Packs l.slots.entries l.end l.fn.items.items l.items.items l.place l.count;
  capacity : vec_capacity l.items ≡ vec_capacity l.fn.items;
}

abbrev pub decreases-loop-place : goal.decreases-loop-place
decreases-loop-place l = length (rest_from l.slots.entries l.place)
