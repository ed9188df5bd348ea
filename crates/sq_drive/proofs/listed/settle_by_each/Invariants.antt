use Rattle.sq_num.specs.declared.packed.TheConstants.Savings.{NONE}
use Rattle.sq_graph.specs.Words.{words_of}
use Rattle.sq_pass.specs.Rewrites.{IsRewrittenByAll}
use Rattle.sq_drive.proofs.listed.settle_by_each.Given as goal

abbrev pub invariant-loop-savings : goal.invariant-loop-savings
invariant-loop-savings g l = IsRewrittenByAll g.P.Pass.is_candidate g.P.Pass.described l.passes NONE l.savings l.fn.graph.graph l.graph.graph

abbrev pub decreases-loop-savings : goal.decreases-loop-savings
decreases-loop-savings g l = words_of l.graph.graph
