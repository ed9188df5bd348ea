use Rattle.sq_fold.proofs.Relabelling.{LabelledTo}
use Rattle.sq_fold.proofs.splitting.with_labels.Given as goal

abbrev pub invariant-loop-i : goal.invariant-loop-i
invariant-loop-i l = LabelledTo l.nodes l.labels l.i l.found.items
