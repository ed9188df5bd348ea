-- What a reader of files finds in the file of a graph.
use Rattle.std.specs.Prelude.{◌≡◌, ◌<◌, ◌≤◌, ℕ, ◌+◌, ◌-◌, ◌*◌, ◌^◌, false, List, [], ◌∷◌, length, None, IsSome}
use Rattle.std.specs.List.{All, AllByRecursion, Contains}
use Rattle.sq_elf.specs.declared.segment.Segment.{Segment}
use Rattle.sq_elf.specs.Headers.{entry_of}
use Rattle.sq_elf.specs.Memory.{segments_of}
use Rattle.sq_elf.specs.Ranges.{meets}
use Rattle.sq_elf.specs.Refusing.{file_refusal_of}
use Rattle.sq_elf.specs.Segments.{copy_size}
use Rattle.sq_elf.specs.Sizes.{loaded_of}
use Rattle.sq_elf.specs.Text.{text_of}
use Rattle.sq_reloc.specs.Outside.{code_word_at}
use Rattle.sq_reloc.specs.Refusing.{reloc_refusal_of}
use Rattle.sq_graph.specs.Graph.{Graph}
use Rattle.sq_graph.specs.Places.{IsInReach}
use Rattle.sq_graph.specs.Rules.{IsGraph}
use Rattle.sq_graph.specs.Words.{words_of}
use Rattle.sq_write.specs.Output.{Piece, Output, pieces_of, loaded_size}
use Rattle.sq_write.specs.Pieces.{without_x}
use Rattle.sq_write.specs.Points.{new_address}
use Rattle.sq_write.specs.Written.{written_output, written}
use Rattle.law_written.specs.Fitting.{IsFitting}
use Rattle.law_written.specs.Reading.{copied}

-- a graph that can be written in place of the text of an accepted file: its code words are code words of the file, its
-- branches reach, and its words are no more than those of text
pub record IsWritable (file : List ℕ) (g : Graph) : Type 0 where
  pub bytes : AllByRecursion (λ b. b < 256) file
  pub accepted : file_refusal_of file ≡ None
  pub relocs : reloc_refusal_of file ≡ None
  pub rules : IsGraph g
  pub code_words : All (λ word. IsSome (code_word_at file word.at)) g.code_words
  pub reach : IsInReach g
  pub words : (text_of file).lo + 4 * words_of g ≤ (text_of file).hi

-- The output of a graph fits the fields of the file.
abbrev pub WrittenFits : Type 0
WrittenFits = (bytes : List ℕ) (g : Graph) → IsWritable bytes g → IsFitting (written_output bytes g)

-- what is loaded beside text is what was
pub record HasSizes (bytes : List ℕ) (g : Graph) (file : List ℕ) : Type 0 where
  pub text : text_of file ≡ record { lo = (text_of bytes).lo; hi = (text_of bytes).lo + 4 * words_of g }
  pub entry : entry_of file ≡ new_address g (text_of bytes).lo g.entry
  pub loaded : loaded_of file ≡ loaded_size (written_output bytes g)
  pub size : loaded_of file + ((text_of bytes).hi - (text_of bytes).lo) ≡ loaded_of bytes + 4 * words_of g

-- The file of a graph has text where the other had it, of the graph's words, and runs from the entry block's address. Its
-- loaded bytes are those of the other, with the graph's words in place of text.
abbrev pub WrittenSizes : Type 0
WrittenSizes = (bytes : List ℕ) (g : Graph) → IsWritable bytes g → HasSizes bytes g (written bytes g)

-- a piece of a segment: its memory and its load copy lie in those of the segment, and it can't be executed
pub record IsPartOf (p : Piece) (s : Segment) : Type 0 where
  pub low : s.address ≤ p.address
  pub high : p.address + p.size ≤ s.address + s.memsz
  pub copy_low : 0 < copied p → s.load_address ≤ p.load_address
  pub copy_high : 0 < copied p → p.load_address + copied p ≤ s.load_address + copy_size s
  pub flags : p.flags ≡ without_x s.flags

-- a piece of one of the segments of a file
abbrev pub IsPartOfFile : List ℕ → Piece → Type 0
IsPartOfFile bytes p = (s : Segment) × Contains (segments_of bytes) s × IsPartOf p s

-- a piece that ends where another begins, or before it; no load copy of one meets the other
pub record IsBefore (p q : Piece) : Type 0 where
  pub ends : p.address + p.size ≤ q.address
  pub first : meets p.address p.size q.load_address (copied q) ≡ false
  pub second : meets q.address q.size p.load_address (copied p) ≡ false
  pub copies : meets p.load_address (copied p) q.load_address (copied q) ≡ false

-- each piece is before those behind it
abbrev pub AreInOrder : List Piece → Type 0
AreInOrder [] = Unit {0}
AreInOrder (p ∷ ps) = AllByRecursion (IsBefore p) ps × AreInOrder ps

-- a piece that ends within 32 bits, as its load copy does, which doesn't meet it
pub record IsLoadable (p : Piece) : Type 0 where
  pub within : p.address + p.size ≤ 2 ^ 32
  pub copy_within : p.load_address + length p.bytes ≤ 2 ^ 32
  pub alone : meets p.address p.size p.load_address (copied p) ≡ false

-- the pieces of an output around its text are parts of a file's segments, and stand in order
pub record ArePlaced (bytes : List ℕ) (o : Output) : Type 0 where
  pub before : AllByRecursion (IsPartOfFile bytes) o.before
  pub after : AllByRecursion (IsPartOfFile bytes) o.after
  pub in_order : AreInOrder (pieces_of o)
  pub loadable : AllByRecursion IsLoadable (pieces_of o)

-- The pieces around the text of a written file are parts of the other file's segments; they ascend, and no two meet.
abbrev pub PiecesArePlaced : Type 0
PiecesArePlaced = (bytes : List ℕ) (g : Graph) → IsWritable bytes g → ArePlaced bytes (written_output bytes g)

-- A file that is written again of the same graph is itself: text stands where it stood, the pieces around it are cut where
-- they were cut, and its code words are set as they were.
abbrev pub WrittenAgain : Type 0
WrittenAgain = (bytes : List ℕ) (g : Graph) → IsWritable bytes g → written (written bytes g) g ≡ written bytes g
