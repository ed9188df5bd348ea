-- What reading takes of a stream.
use Rattle.std.specs.Prelude.{◌≡◌, ℕ, ◌≤◌, List, ◌++◌, length, Option, Some, None, ⊤}

-- of known bytes at most so many were taken, from the front
abbrev pub ConsumesAtMost : ℕ → Option (List ℕ) → Option (List ℕ) → Type 0
ConsumesAtMost most None new = ⊤
ConsumesAtMost most (Some left) None = ⊥
ConsumesAtMost most (Some left) (Some later) = (taken : List ℕ) × (left ≡ taken ++ later) × (length taken ≤ most)
