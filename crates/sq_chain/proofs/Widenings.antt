-- What widening makes of every graph.
use Rattle.std.proofs.Common.{◌≡◌, ℕ, ◌+◌, Bool, sym, ap, subst, arith}
use Rattle.sq_graph.specs.Graph.{Graph}
use Rattle.sq_graph.specs.Places.{IsInReach}
use Rattle.sq_graph.specs.Rules.{IsGraph}
use Rattle.sq_graph.specs.Words.{words_of}
use Rattle.sq_chain.specs.Widening.{IsValid, size_of, IsWidened}
use Rattle.sq_chain.specs.Laws.{WideningLaws}
use Rattle.sq_chain.proofs.Rounds.{least_is_least}
use Rattle.sq_chain.proofs.Over.{widened_words}
use Rattle.sq_chain.proofs.Near.{are_branches, widened_near}
use Rattle.sq_chain.proofs.AlikeWidened.{widened_alike}

pub wide_words : (g h : Graph) (S : ℕ → Bool) → IsGraph g → IsValid g S → IsWidened g h S → words_of h ≡ words_of g + size_of g S
wide_words g h S rules valid wide =
    omega (arith, ap words_of wide.is, widened_words wide.new S g.blocks (are_branches g S rules valid.branches) rules.ends)

pub wide_near : (g h : Graph) (S : ℕ → Bool) → IsGraph g → IsValid g S → IsWidened g h S → IsInReach h
wide_near g h S rules valid wide = subst IsInReach (sym wide.is) (widened_near g S rules wide.new valid wide.fresh)

pub widening_laws : WideningLaws
widening_laws = record {
  least_is_least = least_is_least;
  reach = wide_near;
  words = wide_words;
  alike = λ g h S rules wide. widened_alike g h S rules wide;
}
