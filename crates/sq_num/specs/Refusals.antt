-- The one ordering rule of refusals: the first row of a table that fails, at its first place.
use Rattle.std.specs.Prelude.{ℕ, zero, suc, ◌+◌, Bool, List, [], ◌∷◌, Option, Some, None, if◌then◌else◌}
use Rattle.sq_num.specs.declared.refusal.Refusal.{Refusal}

-- how many places are looked at, at which of them the file is refused, and how
pub record Row : Type 0 where
  pub places : ℕ
  pub fails : ℕ → Bool
  pub refusal : ℕ → Refusal

-- the first of n places from `at` on that fails
unfoldable pub first_from : (ℕ → Bool) → ℕ → ℕ → Option ℕ
first_from fails at zero = None
first_from fails at (suc n) = if fails at then Some at else first_from fails (at + 1) n

-- the refusal at the place, or else the later one
abbrev pub refused_at : (ℕ → Refusal) → Option ℕ → Option Refusal → Option Refusal
refused_at refusal None later = later
refused_at refusal (Some place) later = Some (refusal place)

-- the refusal of a table: the first row that fails, at its first place
abbrev pub first_refusal : List Row → Option Refusal
first_refusal [] = None
first_refusal (row ∷ rows) = refused_at row.refusal (first_from row.fails 0 row.places) (first_refusal rows)
