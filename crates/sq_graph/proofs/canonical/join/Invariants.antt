use Rattle.std.proofs.Common.{◌≡◌, ◌+◌, length}
use Rattle.sq_graph.specs.CanonicalSlots.{joined_slots}
use Rattle.sq_graph.proofs.BackWalks.{up_to, IsDoneBehind}
use Rattle.sq_graph.proofs.canonical.join.Given as goal

abbrev pub invariant-loop-place : goal.invariant-loop-place
invariant-loop-place l = record {
  walk : IsDoneBehind joined_slots l.fn.slots.entries l.slots.entries l.place;
  total : length l.slots.entries + l.slots.spare ≡ length l.fn.slots.entries + l.fn.slots.spare;
}

abbrev pub decreases-loop-place : goal.decreases-loop-place
decreases-loop-place l = length (up_to l.slots.entries l.place)
