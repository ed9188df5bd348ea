use Rattle.sq_tail.proofs.BodiesFound.{IsOpen, steps_left}
use Rattle.sq_tail.proofs.bodies.kept_ahead.Given as goal

abbrev pub invariant-loop-at : goal.invariant-loop-at
invariant-loop-at l = IsOpen l.live l.graph.graph l.names l.place l.at

abbrev pub decreases-loop-at : goal.decreases-loop-at
decreases-loop-at l = steps_left l.at
