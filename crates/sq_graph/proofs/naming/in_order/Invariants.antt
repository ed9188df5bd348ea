use Rattle.std.proofs.Common.{◌≡◌, ◌++◌, length}
use Rattle.sq_arena.specs.Entries.{values}
use Rattle.sq_graph.specs.Cursor.{IsPlace, rest_from}
use Rattle.sq_graph.proofs.naming.in_order.Given as goal

abbrev pub invariant-loop-place : goal.invariant-loop-place
invariant-loop-place l = record {
  place : IsPlace l.slots.entries l.place;
  list : l.list.items ++ values (rest_from l.slots.entries l.place) ≡ values l.slots.entries;
}

abbrev pub decreases-loop-place : goal.decreases-loop-place
decreases-loop-place l = length (rest_from l.slots.entries l.place)
