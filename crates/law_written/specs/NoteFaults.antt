-- No entry of the note of the file of a graph is refused.
use Rattle.std.specs.Prelude.{◌≡◌, ℕ, Bool, List, None}
use Rattle.std.specs.List.{All}
use Rattle.sq_elf.specs.Text.{text_of}
use Rattle.sq_graph.specs.Graph.{Graph}
use Rattle.sq_graph.specs.Soundness.{IsSoundBody}
use Rattle.law_program.specs.FilePrograms.{early_refusal}
use Rattle.sq_write.specs.Written.{written}
use Rattle.law_written.specs.Written.{IsWritable}
use Rattle.law_written.specs.Programs.{graph_program}

-- Where the bodies of the procedures are sound, neither text nor note is refused, whichever words are reached. That links
-- die behind calls is not asked here.
abbrev pub WrittenFilesPassEarly : Type 0
WrittenFilesPassEarly =
    (bytes : List ℕ) (g : Graph) → IsWritable bytes g → All IsSoundBody g.procedures → (is : ℕ → Bool)
    → early_refusal (written bytes g) is (graph_program g (text_of bytes).lo) ≡ None
