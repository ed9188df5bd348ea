use Rattle.std.proofs.Common.{◌≡◌, ℕ, nat_eq, take}
use Rattle.std.specs.HashMap.{get}
use Rattle.sq_fold.specs.Grouped.{class_in}
use Rattle.sq_quotient.specs.Staying.{first_of}
use Rattle.sq_quotient.proofs.staying.firsts.Given as goal

abbrev pub invariant-loop-name : goal.invariant-loop-name
invariant-loop-name l = (class : ℕ) → get nat_eq l.firsts class ≡ first_of (class_in l.grouping) (take l.name-index l.names) class
