-- The first place that fails, step by step.
use Rattle.std.proofs.Common.{◌≡◌, ℕ, zero, suc, ◌+◌, ◌-◌, ◌<◌, Bool, true, false, if◌then◌else◌, List, ◌∷◌, Some, None, refl, ap, arith}
use Rattle.sq_num.specs.Refusals.{Row, first_from, refused_at, first_refusal}

-- where this place fails, it is the first
pub first_here : (fails : ℕ → Bool) (at n : ℕ) → 0 < n → fails at ≡ true → first_from fails at n ≡ Some at
unfolding first_from
first_here fails at zero some here = absurd (omega arith)
first_here fails at (suc n) some here = rw here refl

-- where it does not, the first is one of those behind
pub first_later : (fails : ℕ → Bool) (at n : ℕ) → 0 < n → fails at ≡ false → first_from fails at n ≡ first_from fails (at + 1) (n - 1)
unfolding first_from
first_later fails at zero some here = absurd (omega arith)
first_later fails at (suc n) some here = let less : suc n - 1 ≡ n = omega arith in rw (here, less) refl

-- of no places none fails
pub first_of_none : (fails : ℕ → Bool) (at : ℕ) → first_from fails at 0 ≡ None
unfolding first_from
first_of_none fails at = refl

-- of one place it is the first or none
pub first_of_one : (fails : ℕ → Bool) → first_from fails 0 1 ≡ (if fails 0 then Some 0 else None)
unfolding first_from
first_of_one fails = refl

-- the row that fails first gives the refusal
pub refused_here : (row : Row) (rows : List Row) (at : ℕ) → first_from row.fails 0 row.places ≡ Some at → first_refusal (row ∷ rows) ≡ Some (row.refusal at)
refused_here row rows at fails = ap (λ first. refused_at row.refusal first (first_refusal rows)) fails

-- a row that does not fail leaves it to those behind
pub refused_later : (row : Row) (rows : List Row) → first_from row.fails 0 row.places ≡ None → first_refusal (row ∷ rows) ≡ first_refusal rows
refused_later row rows passes = ap (λ first. refused_at row.refusal first (first_refusal rows)) passes
