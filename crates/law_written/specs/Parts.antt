-- The parts of a graph, but for its blocks, as they are lifted from its file.
use Rattle.std.specs.Prelude.{◌≡◌, ℕ, Bool, List}
use Rattle.sq_elf.specs.Text.{text_of}
use Rattle.sq_graph.specs.Graph.{Graph}
use Rattle.sq_graph.specs.Renames.{renamed}
use Rattle.law_program.specs.Lifted.{lifted_with}
use Rattle.sq_write.specs.Points.{new_address}
use Rattle.law_written.specs.Written.{IsWritable}
use Rattle.law_written.specs.Programs.{graph_notes, graph_program}

-- two graphs that have the same parts, but for their blocks
pub record HasPartsOf (g h : Graph) : Type 0 where
  pub entry : g.entry ≡ h.entry
  pub code_words : g.code_words ≡ h.code_words
  pub procedures : g.procedures ≡ h.procedures

-- With all procedures of the note the entry, the code words and the procedures are lifted as those of the graph, where the
-- name of a block is its new address.
abbrev pub WrittenPartsLiftBack : Type 0
WrittenPartsLiftBack =
    (bytes : List ℕ) (g : Graph) → IsWritable bytes g → (is : ℕ → Bool)
    → HasPartsOf (lifted_with is (graph_notes g (text_of bytes).lo) (graph_program g (text_of bytes).lo)) (renamed (new_address g (text_of bytes).lo) g)
