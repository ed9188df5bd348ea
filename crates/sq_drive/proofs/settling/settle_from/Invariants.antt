use Rattle.sq_graph.specs.Words.{words_of}
use Rattle.sq_pass.specs.Rewrites.{IsRewritten}
use Rattle.sq_drive.specs.Rows.{IsCandidate, described}
use Rattle.sq_drive.proofs.settling.settle_from.Given as goal

abbrev pub invariant-loop-left : goal.invariant-loop-left
invariant-loop-left l = IsRewritten IsCandidate described l.fn.savings l.saved l.fn.graph.graph l.graph.graph

abbrev pub decreases-loop-left : goal.decreases-loop-left
decreases-loop-left l = words_of l.graph.graph
