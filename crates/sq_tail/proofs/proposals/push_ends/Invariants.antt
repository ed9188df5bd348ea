use Rattle.std.specs.List.{All}
use Rattle.sq_tail.specs.Candidates.{IsCandidate}
use Rattle.sq_tail.proofs.proposals.push_ends.Given as goal

abbrev pub invariant-loop-place : goal.invariant-loop-place
invariant-loop-place l = All (IsCandidate l.graph.graph) l.cuts.items
