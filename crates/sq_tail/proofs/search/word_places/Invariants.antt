use Rattle.sq_lookup.specs.Tables.{number_at}
use Rattle.sq_tail.specs.Numbers.{AreWords}
use Rattle.sq_tail.proofs.search.word_places.Given as goal

abbrev pub invariant-loop-i : goal.invariant-loop-i
invariant-loop-i l = AreWords l.graph.graph l.names l.numbers l.i (number_at l.places)
