use Rattle.std.proofs.Common.{sym}
use Rattle.sq_chain.proofs.Drops.{drop_yes, drop_zero}
use Rattle.sq_chain.proofs.shift.fall_to.Goals as goal

pub returns-then-jumps_to-clause-value : goal.returns-then-jumps_to-clause-value
returns-then-jumps_to-clause-value c = sym (drop_yes c.args.term c.args.next (c.jumps_to.ensures.0 c.if-jumps_to.true))

pub returns-else-jumps_to-clause-value : goal.returns-else-jumps_to-clause-value
returns-else-jumps_to-clause-value c = sym (drop_zero c.args.term c.args.next (λ j. let is = c.jumps_to.ensures.1 j in let no = c.if-jumps_to.false in cc))
