-- Procedures that meet their fates, all at once.
use Rattle.std.specs.Prelude.{◌≡◌, ℕ, ◌<◌, Bool, true, false, if◌then◌else◌, List, [], ◌∷◌, map, take, length, get_or, slice_get, Some}
use Rattle.std.specs.List.{flat_map, count_by}
use Rattle.sq_graph.specs.declared.item.Item.{Item}
use Rattle.sq_graph.specs.declared.item.Item.TheVariants.{Op, Hi, Lo, Out}
use Rattle.sq_graph.specs.declared.fates.Fate.{Fate}
use Rattle.sq_graph.specs.declared.fates.Fate.TheVariants.{Stays, Joins, Inlined}
use Rattle.sq_graph.specs.Graph.{Block, Procedure, Graph}
use Rattle.sq_graph.specs.Blocks.{HasProcedure, body_of}

abbrev pub stays : Fate → Bool
stays Stays = true
stays (Joins other) = false
stays Inlined = false

-- the number of a procedure among those that stay: how many ahead of it do
abbrev pub number_among : List Fate → ℕ → ℕ
number_among fates procedure = count_by stays (take procedure fates)

-- what stands in place of a call of a procedure of this fate
abbrev pub settled_call : Graph → List Fate → ℕ → Fate → List Item
settled_call g fates procedure Stays = Out (number_among fates procedure) ∷ []
settled_call g fates procedure (Joins other) = Out (number_among fates other) ∷ []
settled_call g fates procedure Inlined = body_of g procedure

abbrev pub settled_item : Graph → List Fate → Item → List Item
settled_item g fates (Op insn) = Op insn ∷ []
settled_item g fates (Hi rd to) = Hi rd to ∷ []
settled_item g fates (Lo rd rs to) = Lo rd rs to ∷ []
settled_item g fates (Out procedure) = settled_call g fates procedure (get_or fates procedure Stays)

abbrev pub settled_items : Graph → List Fate → List Item → List Item
settled_items g fates items = flat_map (settled_item g fates) items

abbrev pub settled_block : Graph → List Fate → Block → Block
settled_block g fates b = record b { items = settled_items g fates b.items }

-- the procedures that stay, in their order
abbrev pub staying : List Fate → List Procedure → List Procedure
staying [] procedures = []
staying (fate ∷ fates) [] = []
staying (fate ∷ fates) (p ∷ procedures) = if stays fate then p ∷ staying fates procedures else staying fates procedures

abbrev pub settled : List Fate → Graph → Graph
settled fates g =
    record g { blocks = map (settled_block g fates) g.blocks; procedures = staying fates g.procedures }

-- each procedure has a fate, and joins one that is there
pub record AreFates (fates : List Fate) (g : Graph) : Type 0 where
  pub many : length fates ≡ length g.procedures
  pub joined : (procedure other : ℕ) → slice_get fates procedure ≡ Some (Joins other) → HasProcedure g other

-- the number that each procedure has among those that stay
pub record AreNumbers (fates : List Fate) (numbers : List ℕ) : Type 0 where
  pub many : length numbers ≡ length fates
  pub each : (procedure : ℕ) → procedure < length fates → slice_get numbers procedure ≡ Some (number_among fates procedure)
