-- What the live registers of a graph are.
use Rattle.std.specs.Prelude.{◌≡◌, ℕ, ◌<◌, ◌≤◌, ◌+◌, ◌↔◌, true, List, [], Option, Some, None, length, slice_index}
use Rattle.sq_arena.specs.Entries.{value_of}
use Rattle.sq_isa.specs.Registers.{is_member}
use Rattle.sq_graph.specs.Graph.{Graph}
use Rattle.sq_graph.specs.Blocks.{HasBlock, items_of}
use Rattle.sq_graph.specs.Lines.{place_lines}
use Rattle.sq_graph.specs.Walks.{IsLive}

abbrev pub sets_of : Option (List ℕ) → List ℕ
sets_of None = []
sets_of (Some sets) = sets

-- the sets before the places of a block, and none where there is no block
abbrev pub places_of : List (ℕ × List ℕ) → ℕ → List ℕ
places_of live block = sets_of (value_of live block)

-- These are the sets before the places of each block: one for each item and one for the term, and each has exactly
-- the registers that are live there. x0 is live nowhere.
pub record IsLivenessOf (g : Graph) (live : List (ℕ × List ℕ)) : Type 0 where
  pub count : (block : ℕ) → HasBlock g block → length (places_of live block) ≡ length (items_of g block) + 1
  pub exact : (block place r : ℕ) → HasBlock g block → place ≤ length (items_of g block) → 0 < r → r < 32 → (is_member (slice_index (places_of live block) place) r ≡ true) ↔ IsLive g r (place_lines g block place)
