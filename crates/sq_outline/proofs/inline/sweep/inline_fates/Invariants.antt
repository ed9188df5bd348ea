use Rattle.sq_outline.proofs.SweepingInlines.{Tries}
use Rattle.sq_outline.proofs.inline.sweep.inline_fates.Given as goal

abbrev pub invariant-loop-procedure : goal.invariant-loop-procedure
invariant-loop-procedure l = Tries l.graph.graph l.procedure l.fates.items l.fn.savings l.after
