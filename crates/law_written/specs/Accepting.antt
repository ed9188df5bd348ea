-- Output files that the reader accepts.
use Rattle.std.specs.Prelude.{◌≡◌, ◌<◌, ◌≤◌, ℕ, ◌+◌, ◌%◌, length, List, None}
use Rattle.std.specs.List.{AllByRecursion}
use Rattle.sq_elf.specs.Refusing.{file_refusal_of, largest_text}
use Rattle.sq_graph.specs.Graph.{Graph}
use Rattle.sq_write.specs.Output.{Piece, Output, pieces_of, text_size, loaded_size, output_file}
use Rattle.sq_write.specs.Written.{written}
use Rattle.law_written.specs.Fitting.{IsFitting}
use Rattle.law_written.specs.Written.{IsWritable, IsLoadable, AreInOrder}

-- PF_X, which is bit 0, isn't set
abbrev pub CannotRun : Piece → Type 0
CannotRun p = p.flags % 2 ≡ 0

-- an output within the limits, with pieces in order of which text alone can be executed, and with its entry in text
pub record IsAcceptable (o : Output) : Type 0 where
  pub fits : IsFitting o
  pub loadable : AllByRecursion IsLoadable (pieces_of o)
  pub in_order : AreInOrder (pieces_of o)
  pub before : AllByRecursion CannotRun o.before
  pub after : AllByRecursion CannotRun o.after
  pub short : length (output_file o) ≤ 134217728
  pub pieces : length (pieces_of o) ≤ 64
  pub loaded : loaded_size o ≤ 16777216
  pub text : text_size o ≤ largest_text
  pub start : o.start % 4 ≡ 0
  pub entry : o.entry % 4 ≡ 0
  pub low : o.start ≤ o.entry
  pub high : o.entry < o.start + text_size o

-- The reader accepts an output file within the limits.
abbrev pub OutputsAreAccepted : Type 0
OutputsAreAccepted = (o : Output) → IsAcceptable o → file_refusal_of (output_file o) ≡ None

-- The reader accepts the file of a graph.
abbrev pub WrittenIsAccepted : Type 0
WrittenIsAccepted = (bytes : List ℕ) (g : Graph) → IsWritable bytes g → file_refusal_of (written bytes g) ≡ None
