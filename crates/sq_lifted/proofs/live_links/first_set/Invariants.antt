use Rattle.sq_lift.specs.Flags.{is_flagged}
use Rattle.sq_lifted.specs.LiveLinks.{IsBehind}
use Rattle.sq_lifted.proofs.live_links.first_set.Given as goal

abbrev pub invariant-loop-number : goal.invariant-loop-number
invariant-loop-number l = IsBehind (is_flagged l.reached) l.flags l.notes l.procedure l.number
