-- How a `Graph` lies in its fields. No public clause cites this module.
use Rattle.std.specs.Prelude.{◌≡◌, ◌+◌, ◌-◌, ◌≤◌, List, [], ◌∷◌, None, take, drop, length, vec_capacity}
use Rattle.sq_graph.specs.declared.item.Item.{Item}
use Rattle.sq_graph.specs.declared.slot.Body.{Body}
use Rattle.sq_graph.specs.declared.parts.Room.{Room}
use Rattle.sq_graph.specs.declared.graph.Graph.TheInside.{Inside}
use Rattle.sq_graph.specs.Graph.{Procedure, Graph}
use Rattle.sq_graph.specs.Blocks.{items_of_blocks, items_of_bodies, all_items}
use Rattle.sq_graph.specs.Rules.{IsGraph}
use Rattle.sq_graph.specs.Room.{GraphAndRoom, IsSmall, total_of}
use Rattle.sq_graph.specs.Slots.{slots_from, bodies_from}
use Rattle.sq_graph.specs.Packed.{blocks_of, HasGaps}

-- the procedures that have these items in order
abbrev pub procedures_of : List Body → List Item → List Procedure
procedures_of [] items = []
procedures_of (body ∷ rest) items =
    record { link = body.link; body = take body.length items } ∷ procedures_of rest (drop body.length items)

abbrev pub graph_of : Inside → Graph
graph_of inside =
    record {
      blocks = blocks_of inside.slots.entries inside.items.items;
      entry = inside.entry;
      code_words = inside.code_words.items;
      procedures = procedures_of inside.bodies.items (drop inside.blocks_end inside.items.items);
    }

abbrev pub spare_of : Inside → Room
spare_of inside =
    record {
      blocks = inside.slots.spare;
      items = inside.item_room + inside.gaps - length inside.items.items;
      procedures = inside.body_room - length inside.bodies.items;
    }

abbrev pub shown : Inside → GraphAndRoom
shown inside = record { graph = graph_of inside; spare = spare_of inside }

-- the fields hold this graph, in layout order with no gap
pub record Holds (inside : Inside) (g : Graph) : Type 0 where
  pub slots : inside.slots.entries ≡ slots_from 0 g.blocks
  pub items : inside.items.items ≡ all_items g
  pub blocks_end : inside.blocks_end ≡ length (items_of_blocks g.blocks)
  pub gaps : inside.gaps ≡ 0
  pub order : inside.loose.free ≡ None
  pub entry : inside.entry ≡ g.entry
  pub code_words : inside.code_words.items ≡ g.code_words
  pub bodies : inside.bodies.items ≡ bodies_from 0 g.procedures

-- the items and the bodies are within their rooms, which the vectors have
pub record HasRoom (inside : Inside) : Type 0 where
  pub items : length inside.items.items ≤ inside.item_room
  pub item_room : inside.item_room ≤ vec_capacity inside.items
  pub bodies : length inside.bodies.items ≤ inside.body_room
  pub body_room : inside.body_room ≤ vec_capacity inside.bodies

-- the blocks lie ahead of the bodies
pub record IsSound (inside : Inside) : Type 0 where
  pub gaps : HasGaps inside.slots.entries inside.items.items inside.blocks_end inside.gaps inside.loose
  pub behind : drop inside.blocks_end inside.items.items ≡ items_of_bodies (graph_of inside).procedures
  pub bodies : inside.bodies.items ≡ bodies_from 0 (graph_of inside).procedures
  pub rules : IsGraph (graph_of inside)
  pub room : HasRoom inside
  pub small : IsSmall (total_of (shown inside))
