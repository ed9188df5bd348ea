-- The graph of its parts, in which a block's name is its position.
use Rattle.std.specs.Prelude.{◌≡◌, ℕ, ◌+◌, List, [], ◌∷◌, take, drop, length, map, sum_by}
use Rattle.sq_graph.specs.declared.item.Item.{Item}
use Rattle.sq_graph.specs.declared.parts.BlockPart.{BlockPart}
use Rattle.sq_graph.specs.declared.parts.ProcedurePart.{ProcedurePart}
use Rattle.sq_graph.specs.declared.parts.CodeRef.{CodeRef}
use Rattle.sq_graph.specs.Graph.{Block, Procedure, Graph}

-- the blocks that have these items in order, named from this position on
abbrev pub blocks_of_parts : ℕ → List BlockPart → List Item → List Block
blocks_of_parts name [] items = []
blocks_of_parts name (part ∷ rest) items =
    record { name = name; items = take part.length items; term = part.term }
    ∷ blocks_of_parts (name + 1) rest (drop part.length items)

abbrev pub procedures_of_parts : List ProcedurePart → List Item → List Procedure
procedures_of_parts [] items = []
procedures_of_parts (part ∷ rest) items =
    record { link = part.link; body = take part.length items } ∷ procedures_of_parts rest (drop part.length items)

abbrev pub length_of_blocks : List BlockPart → ℕ
length_of_blocks parts = sum_by (λ part. part.length) parts

abbrev pub length_of_bodies : List ProcedurePart → ℕ
length_of_bodies parts = sum_by (λ part. part.length) parts

-- the parts have no more and no fewer items than their lengths say
abbrev pub LengthsFit : List BlockPart → List Item → List ProcedurePart → Type 0
LengthsFit blocks items procedures = length_of_blocks blocks + length_of_bodies procedures ≡ length items

abbrev pub graph_of_parts : List BlockPart → List Item → ℕ → List CodeRef → List ProcedurePart → Graph
graph_of_parts blocks items entry code_words procedures =
    record {
      blocks = blocks_of_parts 0 blocks items;
      entry = entry;
      code_words = code_words;
      procedures = procedures_of_parts procedures (drop (length_of_blocks blocks) items);
    }

abbrev pub names_of : Graph → List ℕ
names_of g = map (λ b. b.name) g.blocks
