use Rattle.std.proofs.Common.{◌≡◌, ◌++◌, drop}
use Rattle.sq_tail.specs.Numbers.{zipped}
use Rattle.sq_tail.proofs.numbers.numbered.Given as goal

abbrev pub invariant-loop-i : goal.invariant-loop-i
invariant-loop-i l = l.pairs.items ++ zipped (drop l.i l.numbers) (drop l.i l.keys) ≡ zipped l.numbers l.keys
