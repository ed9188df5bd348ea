use Rattle.std.proofs.Common.{◌≢◌, ◌<◌, ℕ}
use Rattle.sq_rename.specs.Pairs.{GoWith, MayChange}
use Rattle.sq_rename.proofs.pairs.Pairs.may_stand_all.Given as goal

abbrev pub invariant-loop-number : goal.invariant-loop-number
invariant-loop-number l = (r s : ℕ) → r < l.number → GoWith l.self r s → s ≢ r → MayChange l.dead l.items r s
