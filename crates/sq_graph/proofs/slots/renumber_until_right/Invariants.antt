use Rattle.std.proofs.Common.{◌≡◌, ◌++◌, length}
use Rattle.sq_graph.specs.Cursor.{ahead_of, rest_from, renumbered}
use Rattle.sq_graph.specs.Numbered.{Settles}
use Rattle.sq_graph.proofs.SlotWalks.{Renumbers}
use Rattle.sq_graph.proofs.slots.renumber_until_right.Given as goal

abbrev pub invariant-loop-place : goal.invariant-loop-place
invariant-loop-place l = record {
  walk : Renumbers l.slots.entries l.place l.start (ahead_of l.fn.slots.entries l.fn.from ++ renumbered l.fn.start (rest_from l.fn.slots.entries l.fn.from));
  settles : Settles l.start (rest_from l.slots.entries l.place);
  spare : l.slots.spare ≡ l.fn.slots.spare;
}

abbrev pub decreases-loop-place : goal.decreases-loop-place
decreases-loop-place l = length (rest_from l.slots.entries l.place)
