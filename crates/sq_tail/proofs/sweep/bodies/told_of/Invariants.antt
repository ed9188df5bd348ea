use Rattle.std.proofs.Common.{nat_eq}
use Rattle.std.specs.HashMap.{get}
use Rattle.sq_tail.specs.StillDead.{AreTold}
use Rattle.sq_tail.proofs.sweep.bodies.told_of.Given as goal

abbrev pub invariant-loop-pair : goal.invariant-loop-pair
invariant-loop-pair l = AreTold l.graph.graph (get nat_eq l.told)
