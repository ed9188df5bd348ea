-- What a contract sees of a `Graph`: its four parts, and how much more fits with no memory.
use Rattle.std.specs.Prelude.{◌≡◌, ◌+◌, ◌<◌, ◌≤◌, ◌^◌, length}
use Rattle.sq_graph.specs.declared.parts.Room.{Room}
use Rattle.sq_graph.specs.Graph.{Graph}
use Rattle.sq_graph.specs.Blocks.{all_items}

pub record GraphAndRoom : Type 0 where
  pub graph : Graph
  pub spare : Room

-- how many blocks, items of blocks and procedures together, and procedures there are
abbrev pub count_of : Graph → Room
count_of g =
    record { blocks = length g.blocks; items = length (all_items g); procedures = length g.procedures }

abbrev pub sum_of : Room → Room → Room
sum_of a b =
    record { blocks = a.blocks + b.blocks; items = a.items + b.items; procedures = a.procedures + b.procedures }

-- what is there and what is spare
abbrev pub total_of : GraphAndRoom → Room
total_of v = sum_of (count_of v.graph) v.spare

-- each number is below 2^29
pub record IsSmall (room : Room) : Type 0 where
  pub blocks : room.blocks < 2 ^ 29
  pub items : room.items < 2 ^ 29
  pub procedures : room.procedures < 2 ^ 29

-- each number is at least the other's
pub record Covers (room needed : Room) : Type 0 where
  pub blocks : needed.blocks ≤ room.blocks
  pub items : needed.items ≤ room.items
  pub procedures : needed.procedures ≤ room.procedures

-- what is spare falls by what is added, and rises by what is taken away
abbrev pub KeepsTotal : GraphAndRoom → GraphAndRoom → Type 0
KeepsTotal old new = total_of new ≡ total_of old

abbrev pub no_room : Room
no_room = record { blocks = 0; items = 0; procedures = 0 }
