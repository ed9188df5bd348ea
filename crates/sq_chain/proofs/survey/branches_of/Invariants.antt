use Rattle.std.proofs.Common.{take}
use Rattle.sq_chain.proofs.Marked.{AreListed}
use Rattle.sq_chain.proofs.survey.branches_of.Given as goal

abbrev pub invariant-loop-extent : goal.invariant-loop-extent
invariant-loop-extent l = AreListed l.branches (take l.extent-index l.extents)
