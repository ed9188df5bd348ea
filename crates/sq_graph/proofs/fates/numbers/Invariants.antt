use Rattle.sq_graph.proofs.Settling.{FirstNumbers}
use Rattle.sq_graph.proofs.fates.numbers.Given as goal

abbrev pub invariant-loop-fate : goal.invariant-loop-fate
invariant-loop-fate l = FirstNumbers l.fate-index l.number l.fates l.numbers.items
