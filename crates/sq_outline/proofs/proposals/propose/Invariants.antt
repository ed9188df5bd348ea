use Rattle.std.specs.List.{All}
use Rattle.sq_outline.specs.Candidates.{IsCandidate}
use Rattle.sq_outline.proofs.proposals.propose.Given as goal

abbrev pub invariant-loop-name : goal.invariant-loop-name
invariant-loop-name l = All (IsCandidate l.graph.graph) l.cuts.items
