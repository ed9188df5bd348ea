use Rattle.std.proofs.Common.{length}
use Rattle.sq_graph.specs.Cursor.{rest_from}
use Rattle.sq_graph.specs.Numbered.{with_positions}
use Rattle.sq_graph.proofs.SlotNames.{Numbers}
use Rattle.sq_graph.proofs.naming.number.Given as goal

abbrev pub invariant-loop-place : goal.invariant-loop-place
invariant-loop-place l = Numbers l.slots.entries l.place l.position (with_positions 0 l.fn.slots.entries)

abbrev pub decreases-loop-place : goal.decreases-loop-place
decreases-loop-place l = length (rest_from l.slots.entries l.place)
