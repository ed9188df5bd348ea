use Rattle.std.proofs.Common.{◌≡◌, length}
use Rattle.sq_graph.specs.Cursor.{rest_from}
use Rattle.sq_graph.proofs.Settling.{Settles}
use Rattle.sq_graph.proofs.fates.settle_blocks.Given as goal

abbrev pub invariant-loop-place : goal.invariant-loop-place
invariant-loop-place l = record {
  walk : Settles l.graph.graph l.fates l.slots.entries l.place l.items.items;
  spare : l.slots.spare ≡ l.fn.slots.spare;
}

abbrev pub decreases-loop-place : goal.decreases-loop-place
decreases-loop-place l = length (rest_from l.slots.entries l.place)
