use Rattle.std.specs.List.{All}
use Rattle.sq_outline.specs.WindowsCandidates.{IsWindowsCandidate}
use Rattle.sq_outline.proofs.windows.proposals.push_made.Given as goal

abbrev pub invariant-loop-window : goal.invariant-loop-window
invariant-loop-window l = All (IsWindowsCandidate l.graph.graph) l.cuts.items
