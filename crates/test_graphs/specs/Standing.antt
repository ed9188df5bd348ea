-- What stands in a graph of so many blocks and procedures, whose names and numbers are those below.
use Rattle.std.specs.Prelude.{◌≡◌, ℕ, ◌-◌, ◌<◌, List, [], length, false, slice_index_or}
use Rattle.std.specs.List.{All}
use Rattle.sq_graph.specs.declared.item.Item.{Item}
use Rattle.sq_graph.specs.declared.item.Term.{Term}
use Rattle.sq_graph.specs.declared.parts.BlockPart.{BlockPart}
use Rattle.sq_graph.specs.declared.parts.ProcedurePart.{ProcedurePart}
use Rattle.sq_graph.specs.declared.parts.CodeRef.{CodeRef}
use Rattle.sq_graph.specs.Uses.{item_uses, item_calls, term_uses}
use Rattle.sq_graph.specs.Rules.{IsGraph, ItemFits, TermFits, mentions}
use Rattle.sq_graph.specs.Parts.{LengthsFit, graph_of_parts}
use Rattle.sq_graph.specs.Room.{IsSmall, count_of}

-- an item names a block and calls a procedure that is there, and its fields fit
pub record ItemIsRight (blocks procedures : ℕ) (item : Item) : Type 0 where
  pub names : All (λ k. k < blocks) (item_uses item)
  pub calls : All (λ k. k < procedures) (item_calls item)
  pub fits : ItemFits item

-- a term names a block that is there, and its fields fit
pub record TermIsRight (blocks : ℕ) (term : Term) : Type 0 where
  pub names : All (λ k. k < blocks) (term_uses term)
  pub fits : TermFits term

-- an item that may stand in the body of a procedure with this link
pub record IsFree (link : ℕ) (item : Item) : Type 0 where
  pub no_calls : item_calls item ≡ []
  pub no_mention : mentions item link ≡ false

-- the term of the last of some parts
pub record IsLastTerm (term : Term) (parts : List BlockPart) : Type 0 where
  pub some : 0 < length parts
  pub last : (d : BlockPart) → (slice_index_or parts (length parts - 1) d).term ≡ term

-- a graph can be made of these parts
pub record MakeGraph (blocks : List BlockPart) (items : List Item) (entry : ℕ) (words : List CodeRef) (procedures : List ProcedurePart) : Type 0 where
  pub lengths : LengthsFit blocks items procedures
  pub rules : IsGraph (graph_of_parts blocks items entry words procedures)
  pub small : IsSmall (count_of (graph_of_parts blocks items entry words procedures))
