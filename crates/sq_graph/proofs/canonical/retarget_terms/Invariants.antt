use Rattle.std.proofs.Common.{◌≡◌, length}
use Rattle.sq_graph.specs.Cursor.{retargeted_slots}
use Rattle.sq_graph.specs.CanonicalSlots.{start_of}
use Rattle.sq_graph.proofs.BackWalks.{up_to, IsDoneBehind}
use Rattle.sq_graph.proofs.canonical.retarget_terms.Given as goal

abbrev pub invariant-loop-place : goal.invariant-loop-place
invariant-loop-place l = record {
  walk : IsDoneBehind (retargeted_slots (start_of l.fn.slots.entries)) l.fn.slots.entries l.slots.entries l.place;
  spare : l.slots.spare ≡ l.fn.slots.spare;
}

abbrev pub decreases-loop-place : goal.decreases-loop-place
decreases-loop-place l = length (up_to l.slots.entries l.place)
