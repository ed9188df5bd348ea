use Rattle.sq_pass.specs.Rewrites.{IsRewritten}
use Rattle.sq_jumps.specs.Candidates.{IsCandidate, described}
use Rattle.sq_jumps.proofs.sweep.sweep_in_turn.Given as goal

abbrev pub invariant-loop-turn : goal.invariant-loop-turn
invariant-loop-turn l = IsRewritten IsCandidate described l.fn.savings l.after l.initial.graph.graph l.graph.graph
