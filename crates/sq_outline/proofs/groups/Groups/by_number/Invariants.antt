use Rattle.std.proofs.Common.{◌≡◌, [], drop}
use Rattle.sq_finger.proofs.Grouping.{gathered}
use Rattle.sq_outline.proofs.groups.Groups.by_number.Given as goal

abbrev pub invariant-loop-i : goal.invariant-loop-i
invariant-loop-i l = gathered l.groups (drop l.i l.numbers) (drop l.i l.members) ≡ gathered [] l.numbers l.members
