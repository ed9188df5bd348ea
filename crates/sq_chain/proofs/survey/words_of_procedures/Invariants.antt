use Rattle.std.proofs.Common.{◌≡◌, ◌+◌, drop, sum_by}
use Rattle.sq_graph.specs.Words.{procedure_words}
use Rattle.sq_chain.proofs.survey.words_of_procedures.Given as goal

abbrev pub invariant-loop-procedure : goal.invariant-loop-procedure
invariant-loop-procedure l =
    l.words + sum_by procedure_words (drop l.procedure l.graph.graph.procedures) ≡ sum_by procedure_words l.graph.graph.procedures
