-- The blocks and procedures of a graph by their names and numbers. Names are compared by equality alone.
use Rattle.std.specs.Prelude.{ℕ, List, [], ◌++◌, map, length, Option, None, Some, IsSome, ◌<◌, slice_get}
use Rattle.std.specs.List.{flat_map}
use Rattle.sq_arena.specs.Entries.{value_of, first_key, next_key}
use Rattle.sq_graph.specs.declared.item.Item.{Item}
use Rattle.sq_graph.specs.declared.item.Term.{Term}
use Rattle.sq_graph.specs.Graph.{Block, Procedure, Graph}

-- each block under its name
abbrev pub named : List Block → List (ℕ × Block)
named blocks = map (λ b. (b.name, b)) blocks

abbrev pub block_of : Graph → ℕ → Option Block
block_of g name = value_of (named g.blocks) name

abbrev pub HasBlock : Graph → ℕ → Type 0
HasBlock g name = IsSome (block_of g name)

-- the items of a block, and none where there is no block
abbrev pub block_items : Option Block → List Item
block_items None = []
block_items (Some b) = b.items

abbrev pub items_of : Graph → ℕ → List Item
items_of g name = block_items (block_of g name)

-- the term of a block
abbrev pub block_term : Option Block → Option Term
block_term None = None
block_term (Some b) = Some b.term

abbrev pub term_of : Graph → ℕ → Option Term
term_of g name = block_term (block_of g name)

-- the name in the first slot, and in the slot behind a block
abbrev pub first_of : Graph → Option ℕ
first_of g = first_key (named g.blocks)

abbrev pub next_of : Graph → ℕ → Option ℕ
next_of g name = next_key (named g.blocks) name

-- the body and the link of a procedure, by its number
abbrev pub procedure_body : Option Procedure → List Item
procedure_body None = []
procedure_body (Some p) = p.body

abbrev pub body_of : Graph → ℕ → List Item
body_of g number = procedure_body (slice_get g.procedures number)

abbrev pub procedure_link : Option Procedure → Option ℕ
procedure_link None = None
procedure_link (Some p) = Some p.link

abbrev pub link_of : Graph → ℕ → Option ℕ
link_of g number = procedure_link (slice_get g.procedures number)

abbrev pub HasProcedure : Graph → ℕ → Type 0
HasProcedure g number = number < length g.procedures

-- the items of all blocks in layout order, and behind them the bodies of all procedures
abbrev pub items_of_blocks : List Block → List Item
items_of_blocks blocks = flat_map (λ b. b.items) blocks

abbrev pub items_of_bodies : List Procedure → List Item
items_of_bodies procedures = flat_map (λ p. p.body) procedures

abbrev pub all_items : Graph → List Item
all_items g = items_of_blocks g.blocks ++ items_of_bodies g.procedures
