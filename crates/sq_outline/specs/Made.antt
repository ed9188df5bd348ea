-- Row O1: bodies of blocks that match one of them become calls of a new procedure with that body.
use Rattle.std.specs.Prelude.{◌≡◌, ℕ, nat_eq, ◌+◌, ◌*◌, ◌-◌, ◌≤◌, List, [], ◌∷◌, length, map}
use Rattle.std.specs.List.{All, IsDistinct}
use Rattle.sq_graph.specs.declared.item.Item.{Item}
use Rattle.sq_graph.specs.declared.parts.Room.{Room}
use Rattle.sq_graph.specs.Graph.{Graph}
use Rattle.sq_graph.specs.Blocks.{HasBlock, items_of}
use Rattle.sq_graph.specs.Operations.{outlined}
use Rattle.sq_graph.specs.Uses.{item_calls}
use Rattle.sq_rename.specs.Bodies.{IsBodyMatch, IsLiveBehind}
use Rattle.sq_rename.specs.Reservations.{HasNoReservations}
use Rattle.sq_pass.specs.declared.cut.Cut.{Cut}
use Rattle.sq_pass.specs.declared.cut.Row.TheVariants.{O1}
use Rattle.sq_outline.specs.declared.sites.Site.{Site}
use Rattle.sq_outline.specs.Sites.{called_each}
use Rattle.sq_outline.specs.Links.{IsLink}

-- no Out, LR or SC is among the items
pub record ArePlain (items : List Item) : Type 0 where
  pub no_calls : All (λ item. item_calls item ≡ []) items
  pub no_reservations : HasNoReservations items

-- the body of the block, without Out, LR and SC, matches these items, and both registers of each pair of different ones
-- are dead behind it
pub record HasBody (g : Graph) (items : List Item) (block : ℕ) : Type 0 where
  pub there : HasBlock g block
  pub plain : ArePlain (items_of g block)
  pub match : IsBodyMatch g.procedures (items_of g block) items (IsLiveBehind g block)

-- where the items of these blocks begin and end
abbrev pub starts_of : List ℕ → List Site
starts_of blocks = map (λ block. record { block = block; at = 0 }) blocks

abbrev pub ends_of : Graph → List ℕ → List Site
ends_of g blocks = map (λ block. record { block = block; at = length (items_of g block) }) blocks

-- O1: k blocks, the first of which has a body of n items that those of all match, and their link. A call stands for each
-- body, and the procedure is n items and a word that returns: k(n - 1) - (n + 1) words are saved, at least one
pub record IsMade (g : Graph) (first : ℕ) (others : List ℕ) (link saving : ℕ) : Type 0 where
  pub distinct : IsDistinct nat_eq (first ∷ others)
  pub bodies : All (HasBody g (items_of g first)) (first ∷ others)
  pub linked : IsLink g (items_of g first) (ends_of g (first ∷ others)) link
  pub saves : saving + (length (items_of g first) + 1) ≡ length (first ∷ others) * (length (items_of g first) - 1)
  pub some : 1 ≤ saving

-- O1: the body becomes the last procedure, and each of the k bodies a call of it
abbrev pub made : Graph → ℕ → List ℕ → ℕ → Graph
made g first blocks link =
    called_each (starts_of blocks) (length g.procedures) (outlined g first 0 (length (items_of g first)) link)

-- what this needs: room for the procedure. The calls take the room of the bodies
abbrev pub room_to_make : Graph → ℕ → Room
room_to_make g first = record { blocks = 0; items = length (items_of g first); procedures = 1 }

-- the first of some blocks
abbrev pub first_block : List ℕ → ℕ
first_block [] = 0
first_block (block ∷ rest) = block

-- these blocks, with some saving
pub record AreMade (g : Graph) (blocks : List ℕ) (link : ℕ) : Type 0 where
  pub first : ℕ
  pub others : List ℕ
  pub saving : ℕ
  pub are : blocks ≡ first ∷ others
  pub made : IsMade g first others link saving

-- the cut of these blocks
abbrev pub make_cut : List ℕ → ℕ → ℕ → Cut
make_cut blocks link saving =
    record { row = O1; blocks = blocks; procedure = 0; other = 0; length = 0; link = link; saving = saving }

-- the cut has nothing that O1 doesn't use
pub record IsMakeCut (cut : Cut) : Type 0 where
  pub row : cut.row ≡ O1
  pub procedure : cut.procedure ≡ 0
  pub other : cut.other ≡ 0
  pub length : cut.length ≡ 0

-- a cut of O1
pub record IsMadeCut (g : Graph) (cut : Cut) : Type 0 where
  pub first : ℕ
  pub others : List ℕ
  pub made : IsMade g first others cut.link cut.saving
  pub is : cut ≡ make_cut (first ∷ others) cut.link cut.saving
