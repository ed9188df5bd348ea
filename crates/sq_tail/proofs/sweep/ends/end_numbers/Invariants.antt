use Rattle.sq_tail.specs.Numbers.{AreEndNumbers}
use Rattle.sq_tail.proofs.sweep.ends.end_numbers.Given as goal

abbrev pub invariant-loop-count : goal.invariant-loop-count
invariant-loop-count l = AreEndNumbers l.graph.graph l.count l.names l.numbers.items
