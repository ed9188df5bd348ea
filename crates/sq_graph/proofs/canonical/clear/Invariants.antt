use Rattle.std.proofs.Common.{◌≡◌, length}
use Rattle.sq_graph.proofs.BackWalks.{up_to}
use Rattle.sq_graph.proofs.BareSlots.{IsClearedBehind}
use Rattle.sq_graph.proofs.canonical.clear.Given as goal

abbrev pub invariant-loop-place : goal.invariant-loop-place
invariant-loop-place l = record {
  clears : IsClearedBehind l.fn.slots.entries l.slots.entries l.place l.bare;
  spare : l.slots.spare ≡ l.fn.slots.spare;
}

abbrev pub decreases-loop-place : goal.decreases-loop-place
decreases-loop-place l = length (up_to l.slots.entries l.place)
