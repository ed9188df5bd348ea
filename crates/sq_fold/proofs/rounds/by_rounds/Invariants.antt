use Rattle.std.proofs.Common.{length, ◌-◌}
use Rattle.sq_fold.proofs.Growing.{weight, full}
use Rattle.sq_fold.proofs.Refining.{Rounds}
use Rattle.sq_fold.proofs.rounds.by_rounds.Given as goal

abbrev pub invariant-loop-alloc : goal.invariant-loop-alloc
invariant-loop-alloc l = Rounds l.nodes l.classes.items l.finer.items

abbrev pub decreases-loop-alloc : goal.decreases-loop-alloc
decreases-loop-alloc l = full (length l.nodes) (length l.nodes) - weight l.classes.items
