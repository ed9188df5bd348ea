use Rattle.std.proofs.Common.{◌≡◌, length}
use Rattle.sq_graph.specs.Cursor.{rest_from}
use Rattle.sq_graph.proofs.CallWrites.{Calling}
use Rattle.sq_graph.proofs.calls.call_in_blocks.Given as goal

abbrev pub invariant-loop-place : goal.invariant-loop-place
invariant-loop-place l = record {
  walk : Calling l.graph.graph l.fates l.slots.entries l.place l.items.items l.ahead;
  spare : l.slots.spare ≡ l.fn.slots.spare;
}

abbrev pub decreases-loop-place : goal.decreases-loop-place
decreases-loop-place l = length (rest_from l.slots.entries l.place)
