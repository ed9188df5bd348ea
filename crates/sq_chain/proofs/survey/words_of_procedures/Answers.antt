use Rattle.std.proofs.Common.{arith}
use Rattle.sq_layout.proofs.Counts.{procedure_here}
use Rattle.sq_chain.proofs.survey.words_of_procedures.Goals as goal

pub overflow_cast-words : goal.overflow_cast-words
overflow_cast-words c =
    let h = procedure_here c.args.graph.now.graph c.loop-procedure.procedure c.body.result.now (omega arith) c.body.ensures in
    omega (arith, h.few, h.words, c.requires)

pub overflow_add-words : goal.overflow_add-words
overflow_add-words c =
    let h = procedure_here c.args.graph.now.graph c.loop-procedure.procedure c.body.result.now (omega arith) c.body.ensures in
    omega (arith, h.few, h.words, c.requires)

pub overflow_add-words-in-loop-procedure : goal.overflow_add-words-in-loop-procedure
overflow_add-words-in-loop-procedure c =
    let h = procedure_here c.args.graph.now.graph c.loop-procedure.procedure c.body.result.now (omega arith) c.body.ensures in
    omega (arith, h.sum, h.words, c.requires, c.loop-procedure.invariant)

pub loop-procedure-preserved : goal.loop-procedure-preserved
loop-procedure-preserved c =
    let h = procedure_here c.args.graph.now.graph c.loop-procedure.procedure c.body.result.now (omega arith) c.body.ensures in
    omega (arith, h.sum, h.words, c.loop-procedure.invariant)
