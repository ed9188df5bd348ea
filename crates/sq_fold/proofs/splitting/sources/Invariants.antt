use Rattle.sq_fold.proofs.Splits.{LeadSoFar}
use Rattle.sq_fold.proofs.splitting.sources.Given as goal

abbrev pub invariant-loop-i : goal.invariant-loop-i
invariant-loop-i l = LeadSoFar l.nodes l.i l.from.items l.to.items
