-- A block that isn't used is joined to the one before, by a look at that one.
use Rattle.std.proofs.Common.{◌≡◌, ℕ, ◌==◌, true, false, if◌then◌else◌, List, [], ◌∷◌, Some, inl, inr, refl, sym, ap, ◌∙◌}
use Rattle.std.proofs.lemmas.Bool.{cases_Bool, or_parts, eqb-false}
use Rattle.std.proofs.lemmas.List.Elements.{All-nil, All-cons, All-weaker}
use Rattle.std.specs.List.{All}
use Rattle.sq_isa.specs.Registers.{is_among}
use Rattle.sq_graph.specs.declared.item.Term.{Term}
use Rattle.sq_graph.specs.declared.item.Term.TheVariants.{Fall, Jump, Branch, Call, PartJump, Indirect, Stop}
use Rattle.sq_graph.specs.Graph.{Graph}
use Rattle.sq_graph.specs.Blocks.{next_of, term_of}
use Rattle.sq_graph.specs.Canonical.{joined_by, all_but, joined_before}
use Rattle.sq_graph.specs.Leaders.{is_fall}
use Rattle.sq_graph.specs.Operations.{joined_with_next}
use Rattle.sq_graph.specs.Rules.{IsGraph}
use Rattle.sq_graph.specs.Uses.{uses}
use Rattle.sq_graph.proofs.JoinedAt.{joined_next_is, joined_none_is}
use Rattle.sq_lookup.specs.Counts.{AreUses}
use Rattle.sq_lookup.specs.declared.counts.Uses.{Uses}
use Rattle.sq_lookup.proofs.Counting.{uses_joined}

pub fall_is : (t : Term) → is_fall t ≡ true → t ≡ Fall
fall_is Fall falls = refl
fall_is (Jump to) falls = absurd (cc)
fall_is (Branch c x y to) falls = absurd (cc)
fall_is (Call link to) falls = absurd (cc)
fall_is (PartJump link part to) falls = absurd (cc)
fall_is (Indirect link x offset) falls = absurd (cc)
fall_is (Stop word) falls = absurd (cc)

none_named : (us : List ℕ) (n : ℕ) → is_among us n ≡ false → All (λ u. n ≡ u → ⊥) us
none_named [] n none = All-nil (λ u. n ≡ u → ⊥)
none_named (u ∷ us) n none =
    let parts = or_parts (u == n) (is_among us n) none in
    All-cons (λ u. n ≡ u → ⊥) u us (λ same. eqb-false u n parts.0 (sym same)) (none_named us n parts.1)

-- the name of the next one isn't used
pub next_unused : (g : Graph) (m n : ℕ) → next_of g m ≡ Some n → is_among (uses g) n ≡ false → All (λ u. next_of g m ≡ Some u → ⊥) (uses g)
next_unused g m n slot none =
    All-weaker (λ u. n ≡ u → ⊥) (λ u. next_of g m ≡ Some u → ⊥) (λ u apart same. apart (let both : Some n ≡ Some u = sym slot ∙ same in cc)) (uses g) (none_named (uses g) n none)

module _ (g : Graph) (n : ℕ) (rules : IsGraph g) where
  -- where the block before falls into it
  pub joins : (m : ℕ) → next_of g m ≡ Some n → term_of g m ≡ Some Fall → is_among (uses g) n ≡ false → joined_with_next g m ≡ joined_before g n
  joins m slot fall none = joined_next_is g m n rules fall slot ∙ ap (λ t. if t then g else joined_by (all_but n) g) (sym none)

  -- and where none does
  pub joins_not : ((m : ℕ) (t : Term) → next_of g m ≡ Some n → term_of g m ≡ Some t → is_fall t ≡ false) → g ≡ joined_before g n
  joins_not none =
      elim (cases_Bool (is_among (uses g) n)) [
        | inl used ↦ rw used refl
        | inr unused ↦ rw unused (sym (joined_none_is g n rules none))
      ]

  pub uses_before : (they : Uses) → AreUses g they → AreUses (joined_before g n) they
  uses_before they are =
      elim (cases_Bool (is_among (uses g) n)) [
        | inl used ↦ rw used are
        | inr unused ↦ rw unused (uses_joined (all_but n) g they are)
      ]
