-- The output of a graph: a file made of the data of another and of the words of the graph. It doesn't depend on the
-- names of blocks.
use Rattle.std.specs.Prelude.{ℕ, ◌+◌, ◌*◌, nat_lt, nat_le, List, [], ◌∷◌, ◌++◌, length, map, filter, codes}
use Rattle.std.specs.List.{flat_map}
use Rattle.sq_elf.specs.Text.{text_of}
use Rattle.sq_graph.specs.declared.parts.CodeRef.{CodeRef}
use Rattle.sq_graph.specs.Graph.{Procedure, Graph}
use Rattle.sq_graph.specs.Words.{procedure_words}
use Rattle.sq_write.specs.Output.{words, Output, Relocation, output_file}
use Rattle.sq_write.specs.Plain.{empty_note}
use Rattle.sq_write.specs.Points.{new_address, point_word, procedures_at, text_points}
use Rattle.sq_write.specs.Pieces.{set_word_at, pieces_before, pieces_behind}

-- R_RISCV_32: a code word is the new address of its block
abbrev pub word_entry : Graph → ℕ → CodeRef → Relocation
word_entry g lo word = record { offset = word.at; kind = 1; addend = new_address g lo word.block }

-- THE relocation entries, ascending by offset: those of code words before text, of words of text, and of the other code words
abbrev pub entries_of : Graph → ℕ → List Relocation
entries_of g lo =
    map (word_entry g lo) (filter (λ word. nat_lt word.at lo) g.code_words)
    ++ flat_map (λ p. p.entries) (text_points g lo)
    ++ map (word_entry g lo) (filter (λ word. nat_le lo word.at) g.code_words)

-- the note's entries, of procedures that stand from an address on: address, link and number of items
abbrev pub note_entries : ℕ → List Procedure → List ℕ
note_entries at [] = []
note_entries at (procedure ∷ procedures) =
    words (at ∷ procedure.link ∷ length procedure.body ∷ []) ++ note_entries (at + 4 * procedure_words procedure) procedures

-- the note of procedures that stand from an address on: name and version, the count, and the entries
abbrev pub note_from : ℕ → List Procedure → List ℕ
note_from at [] = empty_note
note_from at (procedure ∷ procedures) =
    codes "SQZ2" ++ words (length (procedure ∷ procedures) ∷ []) ++ note_entries at (procedure ∷ procedures)

-- THE note
abbrev pub note_of : Graph → ℕ → List ℕ
note_of g lo = note_from (procedures_at g lo) g.procedures

-- all that is written: the entry, the pieces and the words of text at their new addresses, the entries and the note
abbrev pub written_output : List ℕ → Graph → Output
written_output bytes g = record {
  entry = new_address g (text_of bytes).lo g.entry;
  before = pieces_before bytes (set_word_at g (text_of bytes).lo);
  start = (text_of bytes).lo;
  text = map point_word (text_points g (text_of bytes).lo);
  after = pieces_behind bytes (set_word_at g (text_of bytes).lo);
  relocations = entries_of g (text_of bytes).lo;
  note = note_of g (text_of bytes).lo;
}

-- THE file of the graph, in place of the text of the file with these bytes
unfoldable pub written : List ℕ → Graph → List ℕ
written bytes g = output_file (written_output bytes g)
