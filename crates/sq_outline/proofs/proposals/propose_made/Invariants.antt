use Rattle.std.specs.List.{All}
use Rattle.sq_outline.specs.Candidates.{IsCandidate}
use Rattle.sq_outline.proofs.proposals.propose_made.Given as goal

abbrev pub invariant-loop-group : goal.invariant-loop-group
invariant-loop-group l = All (IsCandidate l.graph.graph) l.cuts.items
