-- The program of a file, and the refusals of its text and its note.
use Rattle.std.specs.Prelude.{◌≡◌, ℕ, zero, suc, ◌+◌, ◌-◌, ◌/◌, ◌<◌, Bool, List, [], ◌∷◌, Option, Some, None, slice_get}
use Rattle.std.specs.Option.{unwrap_or, option_or, option_map}
use Rattle.sq_num.specs.declared.refusal.Refusal.{Refusal}
use Rattle.sq_num.specs.declared.refusal.Refusal.TheVariants.{BadNote}
use Rattle.sq_elf.specs.Headers.{entry_of}
use Rattle.sq_elf.specs.Text.{text_of as text_range}
use Rattle.sq_elf.specs.Reading.{word_of}
use Rattle.sq_elf.specs.Refusing.{file_refusal_of}
use Rattle.sq_reloc.specs.CodeWords.{AreCodeWords}
use Rattle.sq_reloc.specs.Refusing.{reloc_refusal_of}
use Rattle.sq_reloc.specs.Marks.{mark_of}
use Rattle.sq_graph.specs.Graph.{Graph}
use Rattle.sq_graph.specs.Lines.{Line, Name, Do, Enter, Return, End, lines_of}
use Rattle.sq_graph.specs.Walks.{IsLive}
use Rattle.law_program.specs.Programs.{Word, Text, Note, Program}
use Rattle.law_program.specs.Reached.{Decides}
use Rattle.law_program.specs.Notes.{used_notes, bad_note}
use Rattle.law_program.specs.NoteSections.{notes_of}
use Rattle.law_program.specs.Faults.{text_refusal}
use Rattle.law_program.specs.Lifted.{procedure_at, lifted}
use Rattle.sq_graph.specs.Alike.{AreAlike}

-- a word of an accepted file's text, which is always there
abbrev pub file_word : List ℕ → ℕ → Word
file_word bytes at = record { number = unwrap_or (word_of bytes at) 0; mark = mark_of bytes at }

abbrev pub words_from : List ℕ → ℕ → ℕ → List Word
words_from bytes at zero = []
words_from bytes at (suc n) = file_word bytes at ∷ words_from bytes (at + 4) n

abbrev pub text_of : List ℕ → Text
text_of bytes = record {
  lo = (text_range bytes).lo;
  words = words_from bytes (text_range bytes).lo (((text_range bytes).hi - (text_range bytes).lo) / 4);
}

-- p is THE program of the file. A note that can't be read lists nothing
pub record IsProgramOf (bytes : List ℕ) (p : Program) : Type 0 where
  pub text : p.text ≡ text_of bytes
  pub entry : p.entry ≡ entry_of bytes
  pub code_words : AreCodeWords bytes p.code_words
  pub notes : p.notes ≡ unwrap_or (notes_of bytes (text_of bytes)) []

-- a note that can't be read, or else the first of its entries that isn't good
abbrev pub note_refusal : (ℕ → Bool) → Program → Option (List Note) → Option Refusal
note_refusal is p None = Some (BadNote 0)
note_refusal is p (Some notes) = option_map BadNote (bad_note is p)

-- the refusal by text, and then by the note, but for its last condition
abbrev pub early_refusal : List ℕ → (ℕ → Bool) → Program → Option Refusal
early_refusal bytes is p = option_or (text_refusal is p) (note_refusal is p (notes_of bytes p.text))

-- behind each Out of this procedure in these lines its link is dead
abbrev pub LinkDies : Graph → ℕ → ℕ → List Line → Type 0
LinkDies g procedure link [] = Unit {0}
LinkDies g procedure link (Enter other ∷ rest) = (other ≡ procedure → ¬ IsLive g link rest) × LinkDies g procedure link rest
LinkDies g procedure link (Name n ∷ rest) = LinkDies g procedure link rest
LinkDies g procedure link (Do half insn ∷ rest) = LinkDies g procedure link rest
LinkDies g procedure link (Return r ∷ rest) = LinkDies g procedure link rest
LinkDies g procedure link (End term ∷ rest) = LinkDies g procedure link rest

-- what is asked of the graph where a note's address is reached: behind each `jal` to it the link is dead
abbrev pub NoteDies : (ℕ → Bool) → Program → Note → Type 0
NoteDies is p note =
    (procedure : ℕ) → procedure_at (used_notes is p.notes) note.address ≡ Some procedure → LinkDies (lifted is p) procedure note.link (lines_of (lifted is p).blocks)

-- entry i of the note, counted from 0, is the first that doesn't meet it
pub record IsFirstAlive (is : ℕ → Bool) (p : Program) (i : ℕ) : Type 0 where
  pub before : (j : ℕ) (note : Note) → j < i → slice_get p.notes j ≡ Some note → NoteDies is p note
  pub note : Note
  pub there : slice_get p.notes i ≡ Some note
  pub alive : ¬ NoteDies is p note

-- the file passes what is asked before its text, p is its program, and the test decides which words are reached
pub record IsReadAs (bytes : List ℕ) (is : ℕ → Bool) (p : Program) : Type 0 where
  pub file : file_refusal_of bytes ≡ None
  pub relocs : reloc_refusal_of bytes ≡ None
  pub program : IsProgramOf bytes p
  pub reached : Decides p is

-- THE refusal of a file by its text and its note; each entry of the note is counted from 1
pub data IsLiftRefusal (bytes : List ℕ) (is : ℕ → Bool) (p : Program) : Refusal → Type 0 where
  early : {refusal : Refusal} → IsReadAs bytes is p → early_refusal bytes is p ≡ Some refusal → IsLiftRefusal bytes is p refusal
  alive : {i : ℕ} → IsReadAs bytes is p → early_refusal bytes is p ≡ None → IsFirstAlive is p i → IsLiftRefusal bytes is p (BadNote (i + 1))

-- nothing of the file is refused
pub record IsAccepted (bytes : List ℕ) (is : ℕ → Bool) (p : Program) : Type 0 where
  pub read : IsReadAs bytes is p
  pub early : early_refusal bytes is p ≡ None
  pub dies : (i : ℕ) (note : Note) → slice_get p.notes i ≡ Some note → NoteDies is p note

-- g is THE lifted graph of the file, but for the names of blocks
pub record IsLiftedFrom (bytes : List ℕ) (is : ℕ → Bool) (p : Program) (g : Graph) : Type 0 where
  pub accepted : IsAccepted bytes is p
  pub alike : AreAlike (lifted is p) g

-- THE refusal of a file: by what is asked before its relocations, by these, or by its text and its note
pub data IsRefusalOf (bytes : List ℕ) : Refusal → Type 0 where
  by_file : {refusal : Refusal} → file_refusal_of bytes ≡ Some refusal → IsRefusalOf bytes refusal
  by_relocs : {refusal : Refusal} → file_refusal_of bytes ≡ None → reloc_refusal_of bytes ≡ Some refusal → IsRefusalOf bytes refusal
  by_lift : {is : ℕ → Bool} {p : Program} {refusal : Refusal} → IsLiftRefusal bytes is p refusal → IsRefusalOf bytes refusal

-- nothing of the file is refused: this is its program, and this the test of its reached words
pub record IsAcceptedFile (bytes : List ℕ) : Type 0 where
  pub reached : ℕ → Bool
  pub program : Program
  pub accepted : IsAccepted bytes reached program
