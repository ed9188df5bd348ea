-- Marks on names.
use Rattle.std.specs.Prelude.{ℕ, Bool, true, List, Option, None, Some, get_or}

-- whether the name is marked, as each for which there is no room is
abbrev pub is_marked : List Bool → ℕ → Bool
is_marked marks n = get_or marks n true

-- the same where there are marks, and each name is wanted where there are none
abbrev pub is_wanted : Option (List Bool) → ℕ → Bool
is_wanted None n = true
is_wanted (Some marks) n = is_marked marks n
