use Rattle.std.proofs.Common.{◌≡◌, ◌≤◌, ◌++◌, drop, length}
use Rattle.sq_finger.specs.Numbers.{numbers_from, numbers_of}
use Rattle.sq_finger.proofs.numbers.number_all.Given as goal

abbrev pub invariant-loop-key : goal.invariant-loop-key
invariant-loop-key g l = record {
  few : length l.seen.keys ≤ l.key-index;
  rest : l.numbers.items ++ numbers_from g.K.PartialEq.eq l.seen.keys (drop l.key-index l.keys) ≡ numbers_of g.K.PartialEq.eq l.keys;
}
