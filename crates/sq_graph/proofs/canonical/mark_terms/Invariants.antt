use Rattle.std.proofs.Common.{◌≡◌, length}
use Rattle.sq_graph.proofs.BackWalks.{up_to}
use Rattle.sq_graph.proofs.Marks.{IsMarkedBehind}
use Rattle.sq_graph.proofs.canonical.mark_terms.Given as goal

abbrev pub invariant-loop-place : goal.invariant-loop-place
invariant-loop-place l = record {
  marks : IsMarkedBehind l.fn.slots.entries l.slots.entries l.place;
  spare : l.slots.spare ≡ l.fn.slots.spare;
}

abbrev pub decreases-loop-place : goal.decreases-loop-place
decreases-loop-place l = length (up_to l.slots.entries l.place)
