use Rattle.std.specs.HashMap.{get}
use Rattle.sq_finger.specs.Classes.{is_same_kind}
use Rattle.sq_fold.specs.Nodes.{class_by}
use Rattle.sq_fold.proofs.Parting.{AlikeTo}
use Rattle.sq_fold.proofs.walking.parting.Given as goal

abbrev pub invariant-loop-number : goal.invariant-loop-number
invariant-loop-number l = AlikeTo l.graph.graph (class_by (get is_same_kind l.index) l.classes) l.fn.pair.0 l.fn.pair.1 l.number
