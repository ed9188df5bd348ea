-- Where the places of a line stand.
use Rattle.std.specs.Prelude.{◌≡◌, ◌<◌, ℕ, List, Option, Some, IsSome, length, slice_get}
use Rattle.sq_finger.specs.declared.places.WindowAt.{WindowAt}

-- among the first so many places, those are found that stand there, and no others
pub record IsIndexOf (line : List WindowAt) (many : ℕ) (find : ℕ × ℕ → Option ℕ) : Type 0 where
  pub found : (p : WindowAt) (i : ℕ) → find (p.block, p.at) ≡ Some i → slice_get line i ≡ Some p
  pub there : (p : WindowAt) (i : ℕ) → i < many → slice_get line i ≡ Some p → IsSome (find (p.block, p.at))

abbrev pub IsIndex : List WindowAt → (ℕ × ℕ → Option ℕ) → Type 0
IsIndex line find = IsIndexOf line (length line) find
