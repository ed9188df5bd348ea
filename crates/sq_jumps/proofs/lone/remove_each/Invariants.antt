use Rattle.std.proofs.Common.{drop}
use Rattle.sq_jumps.proofs.LoneGo.{Goes}
use Rattle.sq_jumps.proofs.lone.remove_each.Given as goal

abbrev pub invariant-loop-block : goal.invariant-loop-block
invariant-loop-block l = Goes l.fn.row l.fn.graph.graph l.graph.graph l.fn.savings l.after (drop l.block-index l.blocks)
