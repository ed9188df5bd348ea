use Rattle.sq_graph.specs.Words.{words_of}
use Rattle.sq_pass.specs.Rewrites.{IsRewritten}
use Rattle.sq_drive.proofs.settling.settle_by.Given as goal

abbrev pub invariant-loop-after : goal.invariant-loop-after
invariant-loop-after g l = IsRewritten (g.P.Pass.is_candidate l.pass) (g.P.Pass.described l.pass) l.fn.savings l.saved l.fn.graph.graph l.graph.graph

abbrev pub decreases-loop-after : goal.decreases-loop-after
decreases-loop-after g l = words_of l.graph.graph
