-- What the first place of a row says of the others.
use Rattle.std.proofs.Common.{◌≡◌, ℕ, zero, suc, ◌+◌, ◌<◌, ◌≤◌, Bool, true, false, if◌then◌else◌, inl, inr, Option, Some, None, List, ◌∷◌, refl, sym, ◌∙◌, arith}
use Rattle.std.proofs.lemmas.Bool.{cases_lt}
use Rattle.sq_num.specs.declared.refusal.Refusal.{Refusal}
use Rattle.sq_num.specs.Refusals.{Row, first_from, refused_at, first_refusal}

-- where no place is the first, the test fails at each
pub passes_from : (holds : ℕ → Bool) (at n k : ℕ) → first_from holds at n ≡ None → at ≤ k → k < at + n → holds k ≡ false
unfolding first_from
passes_from holds at zero k none low high = absurd (omega arith)
passes_from holds at (suc n) k none low high = by_test (λ later more high_k. passes_from holds (at + 1) n k later more high_k) (holds at) refl
  where
    behind : (first_from holds (at + 1) n ≡ None → at + 1 ≤ k → k < at + 1 + n → holds k ≡ false) → holds at ≡ false → first_from holds (at + 1) n ≡ None → holds k ≡ false
    behind more here later =
        elim (cases_lt at k) [ inl above ↦ more later (omega arith) (omega arith) | inr below ↦ (let same : k ≡ at = omega arith in rw same here) ]

    by_test : (first_from holds (at + 1) n ≡ None → at + 1 ≤ k → k < at + 1 + n → holds k ≡ false) → (test : Bool) → holds at ≡ test → holds k ≡ false
    by_test more true is = let found : (if holds at then Some at else first_from holds (at + 1) n) ≡ Some at = rw is refl in absurd (cc (found, none))
    by_test more false is = behind more is (let skipped : (if holds at then Some at else first_from holds (at + 1) n) ≡ first_from holds (at + 1) n = rw is refl in sym skipped ∙ none)

-- the first place: the test holds there
pub record IsFirst (holds : ℕ → Bool) (at n k : ℕ) : Type 0 where
  pub low : at ≤ k
  pub high : k < at + n
  pub here : holds k ≡ true

pub found_from : (holds : ℕ → Bool) (at n k : ℕ) → first_from holds at n ≡ Some k → IsFirst holds at n k
unfolding first_from
found_from holds at zero k some = absurd (cc some)
found_from holds at (suc n) k some = by_test (λ later. found_from holds (at + 1) n k later) (holds at) refl
  where
    widen : IsFirst holds (at + 1) n k → IsFirst holds at (suc n) k
    widen first = record { low = omega (arith, first.low); high = omega (arith, first.high); here = first.here }

    by_test : (first_from holds (at + 1) n ≡ Some k → IsFirst holds (at + 1) n k) → (test : Bool) → holds at ≡ test → IsFirst holds at (suc n) k
    by_test more true is =
        let found : (if holds at then Some at else first_from holds (at + 1) n) ≡ Some at = rw is refl in
        let same : at ≡ k = cc (found, some) in
        record { low = omega arith; high = omega arith; here = rw (← same) is }
    by_test more false is =
        let skipped : (if holds at then Some at else first_from holds (at + 1) n) ≡ first_from holds (at + 1) n = rw is refl in
        widen (more (sym skipped ∙ some))

-- a row of a table that refuses nothing passes, and so do those behind
none_at : (refusal : ℕ → Refusal) (place : Option ℕ) (later : Option Refusal) → refused_at refusal place later ≡ None → place ≡ None
none_at refusal None later none = refl
none_at refusal (Some place) later none = absurd (cc none)

none_behind : (refusal : ℕ → Refusal) (place : Option ℕ) (later : Option Refusal) → refused_at refusal place later ≡ None → later ≡ None
none_behind refusal None later none = none
none_behind refusal (Some place) later none = absurd (cc none)

pub row_passes : (row : Row) (rows : List Row) → first_refusal (row ∷ rows) ≡ None → (k : ℕ) → k < row.places → row.fails k ≡ false
row_passes row rows none k within =
    passes_from row.fails 0 row.places k (none_at row.refusal (first_from row.fails 0 row.places) (first_refusal rows) none) (omega arith) (omega arith)

pub behind_row : (row : Row) (rows : List Row) → first_refusal (row ∷ rows) ≡ None → first_refusal rows ≡ None
behind_row row rows none = none_behind row.refusal (first_from row.fails 0 row.places) (first_refusal rows) none
