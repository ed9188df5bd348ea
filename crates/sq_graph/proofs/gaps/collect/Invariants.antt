use Rattle.std.proofs.Common.{◌≤◌, length, vec_capacity}
use Rattle.sq_graph.specs.Cursor.{rest_from}
use Rattle.sq_graph.proofs.Collecting.{Collects}
use Rattle.sq_graph.proofs.gaps.collect.Given as goal

abbrev pub invariant-loop-place : goal.invariant-loop-place
invariant-loop-place l = record {
  collects : Collects l.slots.entries l.items l.to.items l.place;
  capacity : vec_capacity l.fn.to ≤ vec_capacity l.to;
}

abbrev pub decreases-loop-place : goal.decreases-loop-place
decreases-loop-place l = length (rest_from l.slots.entries l.place)
