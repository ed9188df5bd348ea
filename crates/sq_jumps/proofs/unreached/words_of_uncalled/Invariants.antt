use Rattle.std.proofs.Common.{◌≡◌, ◌+◌, drop, not, sum_by}
use Rattle.sq_graph.specs.Words.{procedure_words}
use Rattle.law_patch.specs.Restrictions.{procedures_held}
use Rattle.sq_lookup.specs.Names.{is_listed}
use Rattle.sq_jumps.proofs.unreached.words_of_uncalled.Given as goal

abbrev pub invariant-loop-procedure : goal.invariant-loop-procedure
invariant-loop-procedure l =
    l.words + sum_by procedure_words (procedures_held (λ q. not (is_listed l.called (l.procedure + q))) (drop l.procedure l.graph.graph.procedures))
    ≡ sum_by procedure_words (procedures_held (λ q. not (is_listed l.called q)) l.graph.graph.procedures)
