use Rattle.std.specs.List.{All}
use Rattle.sq_outline.specs.WindowsCandidates.{IsWindowsCandidate}
use Rattle.sq_outline.proofs.windows.proposals.push_calls.Given as goal

abbrev pub invariant-loop-place : goal.invariant-loop-place
invariant-loop-place l = All (IsWindowsCandidate l.graph.graph) l.cuts.items
