use Rattle.std.specs.List.{All}
use Rattle.sq_tail.specs.Candidates.{IsCandidate}
use Rattle.sq_tail.proofs.proposals.push_all_ends.Given as goal

abbrev pub invariant-loop-numbers : goal.invariant-loop-numbers
invariant-loop-numbers l = All (IsCandidate l.graph.graph) l.cuts.items
