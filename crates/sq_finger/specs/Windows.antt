-- Windows: places of n items without Out.
use Rattle.std.specs.Prelude.{◌≡◌, ◌≤◌, ℕ, ◌+◌, Bool, true, false, ◌&&◌, nat_le, nat_eq, List, [], ◌∷◌, Some, if◌then◌else◌, map, take, drop, length}
use Rattle.std.specs.List.{flat_map, list_all}
use Rattle.sq_graph.specs.declared.item.Item.{Item}
use Rattle.sq_graph.specs.declared.item.Item.TheVariants.{Op, Hi, Lo, Out}
use Rattle.sq_graph.specs.Blocks.{items_of, HasBlock}
use Rattle.sq_graph.specs.Graph.{Graph}
use Rattle.sq_graph.specs.Parts.{names_of}
use Rattle.sq_finger.specs.declared.places.WindowAt.{WindowAt}
use Rattle.sq_finger.specs.Fingerprints.{fingerprint_of}
use Rattle.sq_finger.specs.Groups.{groups_of}
use Rattle.sq_finger.specs.Numbers.{numbers_of}

abbrev pub is_plain : Item → Bool
is_plain (Op insn) = true
is_plain (Hi rd to) = true
is_plain (Lo rd rs to) = true
is_plain (Out procedure) = false

-- whether these items begin with a window
abbrev pub is_window : ℕ → List Item → Bool
is_window n items = nat_le n (length items) && list_all is_plain (take n items)

-- the places of windows in a block, where these are its items from a place on
abbrev pub places_from : ℕ → ℕ → ℕ → List Item → List WindowAt
places_from n block at [] = []
places_from n block at (item ∷ items) =
    if is_window n (item ∷ items)
    then record { block = block; at = at } ∷ places_from n block (at + 1) items
    else places_from n block (at + 1) items

-- those in these blocks, and in all of them in layout order
abbrev pub places_in : Graph → ℕ → List ℕ → List WindowAt
places_in g n names = flat_map (λ name. places_from n name 0 (items_of g name)) names

abbrev pub places_of : Graph → ℕ → List WindowAt
places_of g n = places_in g n (names_of g)

-- the n items at a place
abbrev pub window_of : Graph → ℕ → WindowAt → List Item
window_of g n place = take n (drop place.at (items_of g place.block))

abbrev pub window_print : Graph → ℕ → WindowAt → ℕ
window_print g n place = fingerprint_of (window_of g n place)

-- the places of windows of one fingerprint are a class; the classes in the order in which they are first seen
abbrev pub windows_of : Graph → ℕ → List (List WindowAt)
windows_of g n = groups_of (numbers_of nat_eq (map (λ place. Some (window_print g n place)) (places_of g n))) (places_of g n)

-- n items stand there in one block, none of them an Out
pub record IsWindow (g : Graph) (n : ℕ) (place : WindowAt) : Type 0 where
  pub block : HasBlock g place.block
  pub within : place.at + n ≤ length (items_of g place.block)
  pub plain : list_all is_plain (window_of g n place) ≡ true
