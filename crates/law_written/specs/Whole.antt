-- Graphs of which nothing is dead, and that each word of their files is reached.
use Rattle.std.specs.Prelude.{◌≡◌, ℕ, Bool, List}
use Rattle.std.specs.List.{flat_map, Contains}
use Rattle.sq_elf.specs.Text.{text_of}
use Rattle.sq_graph.specs.Graph.{Graph}
use Rattle.sq_graph.specs.Blocks.{HasBlock, HasProcedure, items_of_blocks}
use Rattle.sq_graph.specs.Uses.{item_calls}
use Rattle.sq_graph.specs.Walks.{IsReachedBlock}
use Rattle.law_program.specs.Programs.{IsWord}
use Rattle.law_program.specs.Reached.{IsReached, Decides}
use Rattle.law_program.specs.Notes.{used_notes}
use Rattle.law_written.specs.Written.{IsWritable}
use Rattle.law_written.specs.Programs.{graph_text, graph_notes, graph_program}

-- Each block is reached, and each procedure is called by an item of a block.
pub record IsWhole (g : Graph) : Type 0 where
  pub blocks : (n : ℕ) → HasBlock g n → IsReachedBlock g n
  pub called : (procedure : ℕ) → HasProcedure g procedure → Contains (flat_map item_calls (items_of_blocks g.blocks)) procedure

-- Each word of text of the file of a whole graph is reached.
abbrev pub WrittenWordsAreReached : Type 0
WrittenWordsAreReached =
    (bytes : List ℕ) (g : Graph) → IsWritable bytes g → IsWhole g → (x : ℕ)
    → IsWord (graph_text g (text_of bytes).lo) x → IsReached (graph_program g (text_of bytes).lo) x

-- So all its notes are used, by any test that decides which words are reached.
abbrev pub WrittenNotesAreUsed : Type 0
WrittenNotesAreUsed =
    (bytes : List ℕ) (g : Graph) → IsWritable bytes g → IsWhole g → (is : ℕ → Bool)
    → Decides (graph_program g (text_of bytes).lo) is
    → used_notes is (graph_notes g (text_of bytes).lo) ≡ graph_notes g (text_of bytes).lo
