use Rattle.std.proofs.Common.{length}
use Rattle.sq_graph.specs.Cursor.{rest_from}
use Rattle.sq_graph.proofs.SlotNames.{Counts}
use Rattle.sq_graph.proofs.naming.is_in_order.Given as goal

abbrev pub invariant-loop-place : goal.invariant-loop-place
invariant-loop-place l = Counts l.slots.entries l.place l.position

abbrev pub decreases-loop-place : goal.decreases-loop-place
decreases-loop-place l = length (rest_from l.slots.entries l.place)
