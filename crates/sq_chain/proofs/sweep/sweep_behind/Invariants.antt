use Rattle.sq_pass.specs.Rewrites.{IsRewritten}
use Rattle.sq_chain.specs.Candidates.{IsCandidate, described}
use Rattle.sq_chain.specs.Moves.{AreChains}
use Rattle.sq_chain.specs.Surveys.{IsSurvey}
use Rattle.sq_lookup.specs.Counts.{AreKnown}
use Rattle.sq_chain.proofs.sweep.sweep_behind.Given as goal

abbrev pub invariant-loop-name : goal.invariant-loop-name
invariant-loop-name g l = record {
  rewritten : IsRewritten IsCandidate described l.fn.savings l.after l.initial.graph.graph l.graph.graph;
  survey : IsSurvey l.graph.graph l.looks.view;
  uses : AreKnown l.graph.graph l.looks.uses;
  known : AreChains l.graph.graph l.looks.along.known.items;
}
