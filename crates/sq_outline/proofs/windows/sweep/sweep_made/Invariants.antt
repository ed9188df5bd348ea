use Rattle.sq_pass.specs.Rewrites.{IsRewritten}
use Rattle.sq_outline.specs.WindowsCandidates.{IsWindowsCandidate, windows_described}
use Rattle.sq_outline.proofs.windows.sweep.sweep_made.Given as goal

abbrev pub invariant-loop-look : goal.invariant-loop-look
invariant-loop-look l = IsRewritten IsWindowsCandidate windows_described l.fn.savings l.after l.initial.graph.graph l.graph.graph
