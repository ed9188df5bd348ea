use Rattle.sq_graph.specs.Words.{words_of}
use Rattle.sq_pass.specs.Rewrites.{IsRewritten}
use Rattle.sq_drive.specs.Rows.{IsRowCandidate, row_described}
use Rattle.sq_drive.proofs.rows.settle_earlier.Given as goal

abbrev pub invariant-loop-live : goal.invariant-loop-live
invariant-loop-live l = IsRewritten IsRowCandidate row_described l.fn.savings l.savings l.fn.graph.graph l.graph.graph

abbrev pub decreases-loop-live : goal.decreases-loop-live
decreases-loop-live l = words_of l.graph.graph
