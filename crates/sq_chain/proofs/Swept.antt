-- A chain that has moved in a graph that was made canonical then.
use Rattle.std.proofs.Common.{◌≡◌, ℕ, ◌-◌, ◌≤◌, refl, sym, ap, ◌∙◌, subst, arith}
use Rattle.sq_num.specs.declared.packed.Savings.{Savings}
use Rattle.sq_graph.specs.Graph.{Graph}
use Rattle.sq_graph.specs.Leaders.{IsCanonical}
use Rattle.sq_graph.specs.Words.{words_of}
use Rattle.sq_graph.proofs.CanonicalLaws.{canonical_is_canonical, canonical_keeps_words}
use Rattle.law_follow.specs.Follows.{Follows}
use Rattle.sq_pass.specs.declared.cut.Row.TheVariants.{L}
use Rattle.sq_pass.specs.Counted.{counted}
use Rattle.sq_pass.specs.Rewrites.{IsRewritten}
use Rattle.sq_chain.specs.Candidates.{IsCandidate, described, IsSwept}
use Rattle.sq_chain.proofs.Moved.{move_lighter, move_rewritten}

module _ (old new : Graph) (s : IsSwept old new) where
  swept_canonical : IsCanonical new
  swept_canonical = subst IsCanonical (sym s.is) (canonical_is_canonical s.mid s.moved.moved.applied.rules)

  swept_words : words_of new ≡ words_of s.mid
  swept_words = ap words_of s.is ∙ canonical_keeps_words s.mid s.moved.moved.applied.rules

  pub swept_fewer : words_of new ≤ words_of old
  swept_fewer = omega (arith, s.moved.moved.applied.words, swept_words)

  pub swept_follows : Follows old new
  swept_follows =
      (move_lighter old s.mid new s.moved.from s.moved.to s.moved.moved s.is swept_canonical swept_words (words_of old - words_of new) refl).follows

  pub swept_rewritten : (saving : ℕ) (before after : Savings) → saving ≡ words_of old - words_of new → after ≡ counted before L saving → IsRewritten IsCandidate described before after old new
  swept_rewritten saving before after is counts =
      move_rewritten old s.mid new saving before after s.moved s.is swept_canonical swept_words is counts
