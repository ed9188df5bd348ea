use Rattle.std.proofs.Common.{◌≤◌}
use Rattle.std.specs.List.{All}
use Rattle.sq_cert.specs.Steps.{HasForm}
use Rattle.sq_graph.specs.Leaders.{IsCanonical}
use Rattle.sq_graph.specs.Words.{words_of, most_words}
use Rattle.sq_drive.specs.Replay.{IsReplay}
use Rattle.sq_num.specs.declared.packed.TheConstants.Savings.{NONE}
use Rattle.sq_pass.specs.Rewrites.{IsRewritten}
use Rattle.sq_drive.specs.Replaying.{IsLess}
use Rattle.sq_drive.specs.Rows.{IsCandidate, described}
use Rattle.sq_drive.proofs.noting.settle_noting.Given as goal

abbrev pub invariant-loop-hints : goal.invariant-loop-hints
invariant-loop-hints l = record {
  replayed : IsReplay l.cert l.fn.graph.graph l.graph.graph;
  form : All HasForm l.cert;
  less : IsLess l.fn.graph.graph l.graph.graph;
  rewritten : IsRewritten IsCandidate described NONE l.savings l.fn.graph.graph l.graph.graph;
  canonical : IsCanonical l.graph.graph;
  words : words_of l.graph.graph ≤ most_words;
}

abbrev pub decreases-loop-hints : goal.decreases-loop-hints
decreases-loop-hints l = words_of l.graph.graph
