-- Tables of values by names.
use Rattle.std.specs.Prelude.{ℕ, suc, List, [], ◌∷◌, Option, None, Some, slice_index_or}

module _ {T : Type 0} where
  -- the value under a name
  abbrev pub value_at : List (Option T) → ℕ → Option T
  value_at table name = slice_index_or table name None

  -- the names from this one on that have values
  abbrev pub names_from : ℕ → List (Option T) → List ℕ
  names_from name [] = []
  names_from name (None ∷ rest) = names_from (suc name) rest
  names_from name (Some value ∷ rest) = name ∷ names_from (suc name) rest

-- the number under a name
abbrev pub number_at : List (Option ℕ) → ℕ → Option ℕ
number_at table name = value_at table name
