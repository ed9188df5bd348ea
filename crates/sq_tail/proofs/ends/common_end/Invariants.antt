use Rattle.sq_tail.specs.Ends.{IsCommonEnd}
use Rattle.sq_tail.proofs.ends.common_end.Given as goal

abbrev pub invariant-loop-n : goal.invariant-loop-n
invariant-loop-n l = IsCommonEnd l.items l.others l.n
