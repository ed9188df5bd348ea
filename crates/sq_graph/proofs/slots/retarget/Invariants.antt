use Rattle.std.proofs.Common.{◌≡◌, length}
use Rattle.sq_graph.specs.Cursor.{rest_from, retargeted_slots}
use Rattle.sq_graph.proofs.SlotWalks.{Retargets}
use Rattle.sq_graph.proofs.slots.retarget.Given as goal

abbrev pub invariant-loop-place : goal.invariant-loop-place
invariant-loop-place g l = record {
  walk : Retargets (g.R.Rename.name_of l.by) (g.R.Rename.Knows l.by) l.slots.entries l.place (retargeted_slots (g.R.Rename.name_of l.by) l.fn.slots.entries);
  spare : l.slots.spare ≡ l.fn.slots.spare;
}

abbrev pub decreases-loop-place : goal.decreases-loop-place
decreases-loop-place g l = length (rest_from l.slots.entries l.place)
