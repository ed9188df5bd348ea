use Rattle.sq_lookup.specs.Counts.{AreUses}
use Rattle.sq_pass.specs.Rewrites.{IsRewritten}
use Rattle.sq_tail.specs.Candidates.{IsCandidate, described}
use Rattle.sq_tail.proofs.sweep.ends.join_all.Given as goal

abbrev pub invariant-loop-place : goal.invariant-loop-place
invariant-loop-place l = record {
  rewritten : IsRewritten IsCandidate described l.fn.savings l.after l.initial.graph.graph l.graph.graph;
  uses : AreUses l.graph.graph l.uses;
}
