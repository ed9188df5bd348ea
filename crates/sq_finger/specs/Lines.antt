-- All places of a graph in a line, and windows by their numbers.
use Rattle.std.specs.Prelude.{◌≡◌, ◌↔◌, ℕ, zero, suc, ◌+◌, List, [], ◌∷◌, Option, None, Some, length, slice_get}
use Rattle.std.specs.List.{flat_map}
use Rattle.std.specs.Option.{option_and_then}
use Rattle.sq_graph.specs.declared.item.Item.{Item}
use Rattle.sq_graph.specs.declared.item.Item.TheVariants.{Op, Hi, Lo, Out}
use Rattle.sq_graph.specs.Blocks.{items_of}
use Rattle.sq_graph.specs.Graph.{Graph}
use Rattle.sq_graph.specs.Parts.{names_of}
use Rattle.sq_finger.specs.declared.places.WindowAt.{WindowAt}
use Rattle.sq_finger.specs.Windows.{window_of, IsWindow}

-- the places of a block from one on, with so many items ahead of the place behind them all
abbrev pub block_line : ℕ → ℕ → ℕ → List WindowAt
block_line block at zero = record { block = block; at = at } ∷ []
block_line block at (suc ahead) = record { block = block; at = at } ∷ block_line block (at + 1) ahead

abbrev pub line_in : Graph → List ℕ → List WindowAt
line_in g names = flat_map (λ name. block_line name 0 (length (items_of g name))) names

-- those of all blocks in layout order: one for each item, and one behind the items of each block
abbrev pub line_of : Graph → List WindowAt
line_of g = line_in g (names_of g)

-- an item, but for an Out
abbrev pub plain_item : Item → Option Item
plain_item (Op insn) = Some (Op insn)
plain_item (Hi rd to) = Some (Hi rd to)
plain_item (Lo rd rs to) = Some (Lo rd rs to)
plain_item (Out procedure) = None

-- the item at a place, where one stands there and is no Out
abbrev pub item_at : Graph → WindowAt → Option Item
item_at g place = option_and_then plain_item (slice_get (items_of g place.block) place.at)

-- The numbers of the windows of n items at these places: there is one exactly where there is a window, and two are equal
-- exactly where the windows have equal items.
pub record AreWindowNumbers (g : Graph) (n : ℕ) (places : List WindowAt) (numbers : List (Option ℕ)) : Type 0 where
  pub many : length numbers ≡ length places
  pub window : (i m : ℕ) (p : WindowAt) → slice_get places i ≡ Some p → slice_get numbers i ≡ Some (Some m) → IsWindow g n p
  pub numbered : (i : ℕ) (p : WindowAt) → slice_get places i ≡ Some p → IsWindow g n p → (m : ℕ) × (slice_get numbers i ≡ Some (Some m))
  pub same : (i j m k : ℕ) (p q : WindowAt) → slice_get places i ≡ Some p → slice_get places j ≡ Some q → slice_get numbers i ≡ Some (Some m) → slice_get numbers j ≡ Some (Some k) → (m ≡ k) ↔ (window_of g n p ≡ window_of g n q)
