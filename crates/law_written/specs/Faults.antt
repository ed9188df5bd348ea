-- No word of text of the file of a graph is refused.
use Rattle.std.specs.Prelude.{◌≡◌, ℕ, Bool, List, None}
use Rattle.sq_elf.specs.Text.{text_of}
use Rattle.sq_graph.specs.Graph.{Graph}
use Rattle.law_program.specs.Faults.{text_refusal}
use Rattle.law_written.specs.Written.{IsWritable}
use Rattle.law_written.specs.Programs.{graph_program}

-- Whichever words are reached, none of them has a fault.
abbrev pub WrittenTextIsNotRefused : Type 0
WrittenTextIsNotRefused =
    (bytes : List ℕ) (g : Graph) → IsWritable bytes g → (is : ℕ → Bool)
    → text_refusal is (graph_program g (text_of bytes).lo) ≡ None
