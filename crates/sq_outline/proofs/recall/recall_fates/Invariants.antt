use Rattle.std.proofs.Common.{nat_eq}
use Rattle.std.specs.HashMap.{get}
use Rattle.sq_outline.proofs.SweepingRecalls.{Recalls}
use Rattle.sq_outline.proofs.recall.recall_fates.Given as goal

abbrev pub invariant-loop-procedure : goal.invariant-loop-procedure
invariant-loop-procedure l = Recalls l.graph.graph l.numbers.items l.procedure (get nat_eq l.firsts) l.fates.items l.fn.savings l.after
