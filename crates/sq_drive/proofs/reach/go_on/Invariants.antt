use Rattle.sq_pass.specs.Rewrites.{IsRewritten}
use Rattle.sq_drive.specs.Rows.{IsCandidate, described}
use Rattle.sq_drive.proofs.reach.go_on.Given as goal

abbrev pub invariant-loop-sweep : goal.invariant-loop-sweep
invariant-loop-sweep l = IsRewritten IsCandidate described l.fn.savings l.after l.initial.graph.graph l.graph.graph
