-- The relocations of the file of a graph are accepted.
use Rattle.std.specs.Prelude.{◌≡◌, ℕ, List, None}
use Rattle.sq_reloc.specs.Refusing.{reloc_refusal_of}
use Rattle.sq_graph.specs.Graph.{Graph}
use Rattle.sq_write.specs.Written.{written}
use Rattle.law_written.specs.Written.{IsWritable}

-- No row of the table of relocations refuses the file.
abbrev pub WrittenRelocationsAreAccepted : Type 0
WrittenRelocationsAreAccepted = (bytes : List ℕ) (g : Graph) → IsWritable bytes g → reloc_refusal_of (written bytes g) ≡ None
