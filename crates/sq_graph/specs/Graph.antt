-- A graph as contracts see it: four parts.
use Rattle.std.specs.Prelude.{ℕ, List}
use Rattle.sq_graph.specs.declared.item.Item.{Item}
use Rattle.sq_graph.specs.declared.item.Term.{Term}
use Rattle.sq_graph.specs.declared.parts.CodeRef.{CodeRef}

pub record Block : Type 0 where
  pub name : ℕ
  pub items : List Item
  pub term : Term

-- a procedure is called by Outs; its link is the register that holds where it returns to
pub record Procedure : Type 0 where
  pub link : ℕ
  pub body : List Item

-- the blocks in layout order, the name of the entry, the code words by ascending addresses, and the procedures
pub record Graph : Type 0 where
  pub blocks : List Block
  pub entry : ℕ
  pub code_words : List CodeRef
  pub procedures : List Procedure
