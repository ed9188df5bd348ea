-- Two lists of 32 registers that undo each other. No public clause cites this module.
use Rattle.std.specs.Prelude.{◌≡◌, ℕ, ◌<◌, List, length, slice_index}

pub record AreInverse (to from : List ℕ) : Type 0 where
  pub to_count : length to ≡ 32
  pub from_count : length from ≡ 32
  pub to_below : (r : ℕ) → r < 32 → slice_index to r < 32
  pub from_below : (s : ℕ) → s < 32 → slice_index from s < 32
  pub back : (r : ℕ) → r < 32 → slice_index from (slice_index to r) ≡ r
  pub there : (s : ℕ) → s < 32 → slice_index to (slice_index from s) ≡ s
