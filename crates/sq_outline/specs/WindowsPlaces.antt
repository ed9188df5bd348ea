-- Where items stand in blocks, and their occurrences, which don't overlap.
use Rattle.std.specs.Prelude.{◌≡◌, ℕ, ◌+◌, ◌≤◌, Bool, nat_lt, if◌then◌else◌, List, [], ◌∷◌, map, reverse, take, drop, length}
use Rattle.std.specs.List.{flat_map, slice_range}
use Rattle.std.specs.Cmp.Lexicographic.{pointwise}
use Rattle.sq_graph.specs.contracts.item.ItemPartialEq.TheImpl as item_eq
use Rattle.sq_graph.specs.declared.item.Item.{Item}
use Rattle.sq_graph.specs.Graph.{Graph}
use Rattle.sq_graph.specs.Blocks.{items_of, body_of}
use Rattle.sq_graph.specs.Parts.{names_of}
use Rattle.sq_outline.specs.declared.sites.Site.{Site}

-- these items stand in the block from a place on
pub record StandAt (g : Graph) (block at : ℕ) (items : List Item) : Type 0 where
  pub within : at + length items ≤ length (items_of g block)
  pub same : slice_range (items_of g block) at (at + length items) ≡ items

-- whether some items begin with those of the window, which `==` compares
abbrev pub begins : List Item → List Item → Bool
begins window items = pointwise (item_eq.ghosts).eq (take (length window) items) window

-- the places from which on the window stands, where these are a block's items from a place on
abbrev pub places_from : List Item → ℕ → List Item → List ℕ
places_from window at [] = []
places_from window at (item ∷ items) =
    if begins window (item ∷ items) then at ∷ places_from window (at + 1) items else places_from window (at + 1) items

-- from the left, those of these places of n items that don't overlap the one before, which ends there
abbrev pub apart_from : ℕ → ℕ → List ℕ → List ℕ
apart_from n end [] = []
apart_from n end (at ∷ places) = if nat_lt at end then apart_from n end places else at ∷ apart_from n (at + n) places

-- the occurrences in a block with these items
abbrev pub occurrences_in : List Item → List Item → List ℕ
occurrences_in window items = apart_from (length window) 0 (places_from window 0 items)

abbrev pub in_block : ℕ → ℕ → Site
in_block block at = record { block = block; at = at }

-- the occurrences of the window, block by block in layout order, in each block from the left
abbrev pub occurrences_among : Graph → List Item → List ℕ → List Site
occurrences_among g window names = flat_map (λ block. map (in_block block) (occurrences_in window (items_of g block))) names

abbrev pub occurrences : Graph → List Item → List Site
occurrences g window = occurrences_among g window (names_of g)

-- the same with those of each block from the right
abbrev pub calls_among : Graph → List Item → List ℕ → List Site
calls_among g window names = flat_map (λ block. map (in_block block) (reverse (occurrences_in window (items_of g block)))) names

abbrev pub calls_for : Graph → List Item → List Site
calls_for g window = calls_among g window (names_of g)

-- those among these items that begin from a place on, where one may begin
abbrev pub occurrences_from : List Item → ℕ → List Item → List ℕ
occurrences_from window first items = apart_from (length window) first (places_from window first (drop first items))

-- those of a procedure's body in a block from a place on, up to another, from the right
abbrev pub calls_between : Graph → ℕ → ℕ → ℕ → ℕ → List Site
calls_between g block procedure first end = map (in_block block) (reverse (occurrences_from (body_of g procedure) first (take end (items_of g block))))
