-- Numbers of procedures by their links and bodies. A body is read from its link on, item by item, and what was read so far
-- has a number: below 32 the link alone, and from 32 on the place of a pair, which is the number before the last item and
-- the key of that item.
use Rattle.std.specs.Prelude.{◌≡◌, ◌↔◌, ◌≤◌, ℕ, ◌+◌, List, [], ◌∷◌, ◌++◌, map, reverse, length, Option, Some, slice_get}
use Rattle.sq_graph.specs.declared.item.Item.{Item}
use Rattle.sq_graph.specs.Graph.{Graph}
use Rattle.sq_graph.specs.Blocks.{HasProcedure, body_of, link_of}
use Rattle.sq_finger.specs.declared.keys.ItemKey.{ItemKey}
use Rattle.sq_finger.specs.ItemKeys.{key_of}

-- the number is that of a link and items, the last one first
abbrev pub IsNumber : List (ℕ × ItemKey) → ℕ → ℕ → List ItemKey → Type 0
IsNumber pairs n link [] = n ≡ link
IsNumber pairs n link (key ∷ before) =
    (m : ℕ) × (at : ℕ) × (n ≡ at + 32) × (slice_get pairs at ≡ Some (m, key)) × IsNumber pairs m link before

abbrev pub IsNumberOf : List (ℕ × ItemKey) → ℕ → ℕ → List Item → Type 0
IsNumberOf pairs n link items = IsNumber pairs n link (reverse (map key_of items))

-- each pair stands once
abbrev pub StandOnce : List (ℕ × ItemKey) → Type 0
StandOnce pairs = (i j : ℕ) (pair : ℕ × ItemKey) → slice_get pairs i ≡ Some pair → slice_get pairs j ≡ Some pair → i ≡ j

-- some pairs came behind the others, at most so many
pub record HasGrown (most : ℕ) (old new : List (ℕ × ItemKey)) : Type 0 where
  pub more : List (ℕ × ItemKey)
  pub is : new ≡ old ++ more
  pub few : length new ≤ length old + most
  pub once : StandOnce old → StandOnce new

-- each procedure has a number, and two have one exactly where their bodies are equal and their links
pub record AreBodyNumbers (g : Graph) (numbers : List (Option ℕ)) : Type 0 where
  pub many : length numbers ≡ length g.procedures
  pub each : (p : ℕ) → HasProcedure g p → (n : ℕ) × (slice_get numbers p ≡ Some (Some n))
  pub same : (p q m n : ℕ) → slice_get numbers p ≡ Some (Some m) → slice_get numbers q ≡ Some (Some n) → (m ≡ n) ↔ ((body_of g p ≡ body_of g q) × (link_of g p ≡ link_of g q))
