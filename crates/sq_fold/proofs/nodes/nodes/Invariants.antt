use Rattle.std.specs.HashMap.{get}
use Rattle.sq_finger.specs.Classes.{is_same_kind}
use Rattle.sq_fold.proofs.Leading.{NodesTo}
use Rattle.sq_fold.proofs.nodes.nodes.Given as goal

abbrev pub invariant-loop-i : goal.invariant-loop-i
invariant-loop-i l = NodesTo l.graph.graph l.line l.labels (get is_same_kind l.index) l.i l.nodes.items
