-- A lone Jump between two blocks, and blocks in another order.
use Rattle.std.specs.Prelude.{◌≡◌, ℕ, true, List, Some}
use Rattle.sq_arena.specs.Entries.{HasDistinctKeys}
use Rattle.sq_graph.specs.declared.item.Term.TheVariants.{Jump}
use Rattle.sq_graph.specs.Graph.{Block, Graph}
use Rattle.sq_graph.specs.Blocks.{named, HasBlock, block_of, next_of}
use Rattle.sq_graph.specs.Terms.{goes_on}
use Rattle.sq_graph.specs.Rules.{IsGraph}
use Rattle.sq_graph.specs.Operations.{IsNew, inserted_after}
use Rattle.sq_graph.specs.Soundness.{IsSound}
use Rattle.law_follow.specs.Follows.{Follows}

-- A graph with a lone Jump to the next slot, under a new name, behind a block follows it, and is sound where it is.
abbrev pub InsertFollows : Type 0
InsertFollows =
    (g : Graph) (new block next : ℕ) → IsGraph g → IsNew g new → HasBlock g block → next_of g block ≡ Some next → Follows g (inserted_after g new block (Jump next))

abbrev pub InsertIsSound : Type 0
InsertIsSound =
    (g : Graph) (new block next : ℕ) → IsGraph g → IsNew g new → HasBlock g block → next_of g block ≡ Some next → IsSound g → IsSound (inserted_after g new block (Jump next))

-- These are the blocks of the graph in some order in which each that goes on keeps its next slot.
pub record AreReordered (g : Graph) (blocks : List Block) : Type 0 where
  pub distinct : HasDistinctKeys (named blocks)
  pub same : (n : ℕ) → block_of (record g { blocks = blocks }) n ≡ block_of g n
  pub next : (n : ℕ) (b : Block) → block_of g n ≡ Some b → goes_on b.term ≡ true → next_of (record g { blocks = blocks }) n ≡ next_of g n

-- A graph with its blocks in such an order follows it, and is sound where it is.
abbrev pub ReorderFollows : Type 0
ReorderFollows = (g : Graph) (blocks : List Block) → IsGraph g → AreReordered g blocks → Follows g (record g { blocks = blocks })

abbrev pub ReorderIsSound : Type 0
ReorderIsSound = (g : Graph) (blocks : List Block) → IsGraph g → AreReordered g blocks → IsSound g → IsSound (record g { blocks = blocks })
