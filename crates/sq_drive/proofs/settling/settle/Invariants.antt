use Rattle.sq_num.specs.declared.packed.TheConstants.Savings.{NONE}
use Rattle.sq_graph.specs.Words.{words_of}
use Rattle.sq_pass.specs.Rewrites.{IsRewritten}
use Rattle.sq_drive.specs.Rows.{IsCandidate, described}
use Rattle.sq_drive.proofs.settling.settle.Given as goal

abbrev pub invariant-loop-savings : goal.invariant-loop-savings
invariant-loop-savings l = IsRewritten IsCandidate described NONE l.savings l.fn.graph.graph l.graph.graph

abbrev pub decreases-loop-savings : goal.decreases-loop-savings
decreases-loop-savings l = words_of l.graph.graph
