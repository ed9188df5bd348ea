-- Renamings: for each register, in a list of 32, the one that takes its place.
use Rattle.std.specs.Prelude.{◌≡◌, ℕ, ◌<◌, List, Some, length, slice_get, slice_index}
use Rattle.sq_graph.specs.declared.item.Item.{Item}
use Rattle.sq_graph.specs.Graph.{Procedure}
use Rattle.sq_graph.specs.Matches.{IsPair}

-- each register takes the place of exactly one
pub record IsPermutation (to : List ℕ) : Type 0 where
  pub count : length to ≡ 32
  pub below : (r : ℕ) → r < 32 → slice_index to r < 32
  pub one_to_one : (q r : ℕ) → q < 32 → r < 32 → slice_index to q ≡ slice_index to r → q ≡ r
  pub onto : (s : ℕ) → s < 32 → (r : ℕ) × ((r < 32) × (slice_index to r ≡ s))

-- of each pair the second takes the place of the first
abbrev pub IsRenaming : List Procedure → List Item → List Item → List ℕ → Type 0
IsRenaming procedures items others to = (r s : ℕ) → IsPair procedures items others r s → slice_get to r ≡ Some s
