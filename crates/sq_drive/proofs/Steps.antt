-- What a sweep and one rewrite more, or none, made of a graph.
use Rattle.std.proofs.Common.{◌≡◌, ℕ, ◌≤◌, arith}
use Rattle.sq_num.specs.declared.packed.Savings.{Savings}
use Rattle.sq_graph.specs.Graph.{Graph}
use Rattle.sq_graph.specs.Words.{words_of}
use Rattle.sq_pass.specs.declared.cut.Cut.{Cut}
use Rattle.sq_pass.specs.Rewrites.{IsLighter, IsRewritten}
use Rattle.sq_pass.proofs.Rewriting.{rewritten_none}

module _ (is_candidate : Graph → Cut → Type 0) (described : Graph → Cut → Graph) (before at : Savings) (old mid : Graph) (swept : IsRewritten is_candidate described before at old mid) where
  -- where the sweep lost no word, the graph is as it was
  pub none_swept : ((g : Graph) (cut : Cut) → is_candidate g cut → 1 ≤ cut.saving) → words_of old ≤ words_of mid → mid ≡ old
  none_swept saves words = rewritten_none is_candidate described saves before at old mid swept (omega (arith, words, swept.lighter.words))

  -- a rewrite behind it loses a word
  pub one_lost : (new : Graph) (saving : ℕ) → 1 ≤ saving → IsLighter saving mid new → words_of old ≤ words_of new → ⊥
  one_lost new saving some lighter words = omega (arith, some, lighter.words, swept.lighter.words, words)
