use Rattle.std.proofs.Common.{nat_eq}
use Rattle.std.specs.HashMap.{get}
use Rattle.sq_finger.proofs.Doubles.{Tells}
use Rattle.sq_finger.proofs.numbers.first_double.Given as goal

abbrev pub invariant-loop-j : goal.invariant-loop-j
invariant-loop-j l = Tells l.numbers l.j (get nat_eq l.places)
