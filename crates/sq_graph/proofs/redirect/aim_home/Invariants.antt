use Rattle.std.proofs.Common.{◌≡◌, length}
use Rattle.sq_graph.specs.Cursor.{rest_from}
use Rattle.sq_graph.specs.Aims.{homed}
use Rattle.sq_graph.proofs.Restarting.{Homes}
use Rattle.sq_graph.proofs.redirect.aim_home.Given as goal

abbrev pub invariant-loop-place : goal.invariant-loop-place
invariant-loop-place l = record {
  walk : Homes l.slots.entries l.place (homed l.fn.slots.entries);
  spare : l.slots.spare ≡ l.fn.slots.spare;
}

abbrev pub decreases-loop-place : goal.decreases-loop-place
decreases-loop-place l = length (rest_from l.slots.entries l.place)
