use Rattle.sq_write.proofs.TextWalks.{AtProcedure}
use Rattle.sq_write.proofs.text.push_procedures.Given as goal

abbrev pub invariant-loop-procedure : goal.invariant-loop-procedure
invariant-loop-procedure l = AtProcedure l.placed.g.now.graph l.placed.lo l.procedure l.fn.out l.out
