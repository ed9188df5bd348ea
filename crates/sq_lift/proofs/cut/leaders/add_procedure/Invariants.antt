use Rattle.std.proofs.Common.{◌-◌}
use Rattle.sq_lift.proofs.Raising.{Completes}
use Rattle.sq_lift.proofs.cut.leaders.add_procedure.Given as goal

abbrev pub invariant-loop-index : goal.invariant-loop-index
invariant-loop-index l = Completes l.fn.set l.set l.note l.at (l.note.length - l._index)
