-- The program of the file of a graph.
use Rattle.std.specs.Prelude.{◌≡◌, ℕ, Bool, ◌+◌, ◌*◌, List, [], ◌∷◌, length, map, Some}
use Rattle.sq_elf.specs.Text.{text_of}
use Rattle.sq_reloc.specs.declared.mark.CodeWord.{CodeWord}
use Rattle.sq_graph.specs.declared.parts.CodeRef.{CodeRef}
use Rattle.sq_graph.specs.Graph.{Procedure, Graph}
use Rattle.sq_graph.specs.Words.{procedure_words}
use Rattle.law_program.specs.Programs.{Word, Text, Note, Program}
use Rattle.law_program.specs.FilePrograms.{IsProgramOf, IsReadAs}
use Rattle.law_program.specs.Reached.{Decides}
use Rattle.law_program.specs.NoteSections.{notes_of}
use Rattle.sq_write.specs.Points.{Point, new_address, point_word, procedures_at, text_points}
use Rattle.sq_write.specs.Written.{written}
use Rattle.law_written.specs.Written.{IsWritable}
use Rattle.law_written.specs.Words.{point_mark}

-- a point as a word of text
abbrev pub word_at_point : Point → Word
word_at_point p = record { number = point_word p; mark = point_mark p }

abbrev pub graph_text : Graph → ℕ → Text
graph_text g lo = record { lo = lo; words = map word_at_point (text_points g lo) }

-- a code word with the new address of its block
abbrev pub new_code_word : Graph → ℕ → CodeRef → CodeWord
new_code_word g lo word = record { at = word.at; to = new_address g lo word.block }

-- procedures that stand from an address on, as they are noted
abbrev pub notes_from : ℕ → List Procedure → List Note
notes_from at [] = []
notes_from at (procedure ∷ procedures) =
    record { address = at; link = procedure.link; length = length procedure.body } ∷ notes_from (at + 4 * procedure_words procedure) procedures

abbrev pub graph_notes : Graph → ℕ → List Note
graph_notes g lo = notes_from (procedures_at g lo) g.procedures

-- THE program of a graph whose text begins at an address
abbrev pub graph_program : Graph → ℕ → Program
graph_program g lo = record {
  text = graph_text g lo;
  entry = new_address g lo g.entry;
  code_words = map (new_code_word g lo) g.code_words;
  notes = graph_notes g lo;
}

-- The note of the file lists the procedures of the graph, each at its new address.
abbrev pub WrittenNotesAreRead : Type 0
WrittenNotesAreRead =
    (bytes : List ℕ) (g : Graph) → IsWritable bytes g → (t : Text)
    → notes_of (written bytes g) t ≡ Some (graph_notes g (text_of bytes).lo)

-- The program of the file is that of the graph.
abbrev pub WrittenProgramsAreRead : Type 0
WrittenProgramsAreRead =
    (bytes : List ℕ) (g : Graph) → IsWritable bytes g → IsProgramOf (written bytes g) (graph_program g (text_of bytes).lo)

-- The file passes what is asked before its text, and its program is that of the graph.
abbrev pub WrittenFilesAreRead : Type 0
WrittenFilesAreRead =
    (bytes : List ℕ) (g : Graph) → IsWritable bytes g → (is : ℕ → Bool)
    → Decides (graph_program g (text_of bytes).lo) is → IsReadAs (written bytes g) is (graph_program g (text_of bytes).lo)
