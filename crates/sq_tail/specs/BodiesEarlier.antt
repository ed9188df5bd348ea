-- Places of equal keys.
use Rattle.std.specs.Prelude.{◌≡◌, ◌≢◌, ℕ, ◌<◌, List, length, Option, None, Some, slice_get, slice_index}

-- the last place of a key below a place, if there is one
abbrev pub IsLast : List ℕ → ℕ → ℕ → Option ℕ → Type 0
IsLast keys key below None = (j : ℕ) → j < below → slice_index keys j ≢ key
IsLast keys key below (Some last) = (last < below) × ((slice_index keys last ≡ key) × ((j : ℕ) → last < j → j < below → slice_index keys j ≢ key))

-- for each place the last one below it that has the same key
pub record AreEarlier (keys : List ℕ) (places : List (Option ℕ)) : Type 0 where
  pub many : length places ≡ length keys
  pub earlier : (i : ℕ) (place : Option ℕ) → slice_get places i ≡ Some place → IsLast keys (slice_index keys i) i place
