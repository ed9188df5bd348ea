use Rattle.std.proofs.Common.{◌≡◌, ◌≤◌, ◌+◌, length}
use Rattle.sq_graph.specs.Canonical.{canonical_of}
use Rattle.sq_graph.specs.Parts.{names_of}
use Rattle.sq_graph.specs.Words.{words_of, most_words}
use Rattle.sq_num.specs.Saved.{words_saved}
use Rattle.sq_pass.specs.Rewrites.{IsRewritten}
use Rattle.sq_jumps.specs.Candidates.{IsCandidate, described}
use Rattle.sq_jumps.specs.Fall.{IsCanonicalTo}
use Rattle.sq_jumps.proofs.fall.fall_each.Given as goal

abbrev pub invariant-loop-place : goal.invariant-loop-place
invariant-loop-place l =
    record {
      rewritten : IsRewritten IsCandidate described l.fn.savings l.after l.initial.graph.graph (canonical_of l.graph.graph);
      canonical : IsCanonicalTo l.place l.graph.graph;
      names : l.names ≡ names_of l.graph.graph;
      words : words_of l.graph.graph + words_saved l.after ≤ most_words;
      within : l.place ≤ length l.names;
    }
