use Rattle.sq_pass.specs.Rewrites.{IsRewritten}
use Rattle.sq_outline.specs.Candidates.{IsCandidate, described}
use Rattle.sq_outline.specs.Still.{IsStill}
use Rattle.sq_outline.proofs.sweep.call_each.Given as goal

abbrev pub invariant-loop-name : goal.invariant-loop-name
invariant-loop-name l = record {
  rewritten : IsRewritten IsCandidate described l.fn.savings l.after l.initial.graph.graph l.graph.graph;
  still : IsStill l.initial.graph.graph l.graph.graph;
}
