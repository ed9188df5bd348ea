-- A graph that is whole: its second block is reached by a half in a procedure alone.
use Rattle.std.proofs.Common.{◌≡◌, ℕ, ◌==◌, true, false, ◌⊎◌, inl, inr, [], ◌∷◌, refl, subst, arith}
use Rattle.std.proofs.lemmas.Bool.{cases_Bool, eqb-true}
use Rattle.sq_graph.specs.declared.item.Item.TheVariants.{Hi, Out}
use Rattle.sq_graph.specs.declared.item.Term.TheVariants.{Stop}
use Rattle.sq_graph.specs.Graph.{Graph}
use Rattle.sq_graph.specs.Blocks.{HasBlock}
use Rattle.sq_graph.specs.Walks.{IsReachedBlock, entry, walk}
use Rattle.law_written.specs.Whole.{IsWhole}

abbrev calling : Graph
calling = record {
  blocks =
      record { name = 7; items = Out 0 ∷ []; term = Stop 0x00100073 }
      ∷ record { name = 9; items = []; term = Stop 0x00100073 }
      ∷ [];
  entry = 7;
  code_words = [];
  procedures = record { link = 1; body = Hi 5 9 ∷ [] } ∷ [];
}

each_reached : (n : ℕ) → HasBlock calling n → IsReachedBlock calling n
each_reached n there = first (cases_Bool (7 == n)) (cases_Bool (9 == n))
  where
    first : ((7 == n) ≡ true) ⊎ ((7 == n) ≡ false) → ((9 == n) ≡ true) ⊎ ((9 == n) ≡ false) → IsReachedBlock calling n
    first (inl seven) other = subst (IsReachedBlock calling) (eqb-true 7 n seven) entry
    first (inr apart) (inl nine) = subst (IsReachedBlock calling) (eqb-true 9 n nine) (walk entry (0, omega arith, refl))
    first (inr apart) (inr away) = absurd (cc (rw away at (rw apart at there)))

calling_is_whole : IsWhole calling
calling_is_whole = record {
  blocks = each_reached;
  called = λ q there. let none : 0 ≡ q = omega (arith, there) in (0, omega arith, none);
}
