-- Worlds: all that the run of a graph has from a file.
use Rattle.std.specs.Prelude.{◌≡◌, ℕ, ◌<◌, List, [], ◌∷◌, ◌++◌, All, Option, Some, None, Bool, true, length, map, slice_get}
use Rattle.sq_isa.specs.Registers.{written}
use Rattle.sq_memory.specs.Regions.{Region, get}
use Rattle.sq_system.specs.Starts.{Start, IsIn, stack_pointer, ram_at_start}
use Rattle.sq_system.specs.World.{World as Layout}
use Rattle.sq_system.specs.declared.piece.Piece.{Piece}
use Rattle.sq_system.specs.declared.start.Extent.{Extent}
use Rattle.law_follow.specs.Values.{Code, Num, Cell, Byte, Frag, Stale, Held, Holds}
use Rattle.law_follow.specs.Settings.{Setting}
use Rattle.law_follow.specs.GraphRuns.{Core}

-- what a byte is at the start: a number, byte k of a code word, or what no load may read
pub data StartByte : Type 0 where
  Given : ℕ → StartByte
  OfWord : ℕ → ℕ → StartByte
  StaleByte : StartByte

-- a piece of memory with its bytes
pub record StartPiece : Type 0 where
  pub piece : Piece
  pub bytes : List StartByte

-- Pieces, the text from `lo` up to, without, `hi`, and how many code words there are. The bytes of text are never
-- read in a run without a break, so they may be anything. What a start gives (arguments, input) are numbers of any size.
pub record World : Type 0 where
  pub pieces : List StartPiece
  pub lo : ℕ
  pub hi : ℕ
  pub code_words : ℕ

abbrev pub extent_of : StartPiece → Extent
extent_of first = first.piece.extent

abbrev pub extents : World → List Extent
extents w = map extent_of w.pieces

-- a byte below 256, or one of the four of a code word that is there
abbrev pub IsStartByte : ℕ → StartByte → Type 0
IsStartByte code_words (Given b) = b < 256
IsStartByte code_words (OfWord i k) = (i < code_words) × (k < 4)
IsStartByte code_words StaleByte = Unit {0}

pub record IsFilled (code_words : ℕ) (first : StartPiece) : Type 0 where
  pub length : length first.bytes ≡ (extent_of first).length
  pub bytes : All (IsStartByte code_words) first.bytes

-- no byte is in both
abbrev pub AreApart : Extent → Extent → Type 0
AreApart a b = (x : ℕ) → IsIn x a → IsIn x b → ⊥

abbrev pub AreAllApart : List Extent → Type 0
AreAllApart [] = Unit {0}
AreAllApart (piece ∷ pieces) = All (AreApart piece) pieces × AreAllApart pieces

-- each piece has its bytes, and no two pieces meet
pub record IsWorld (w : World) : Type 0 where
  pub filled : All (IsFilled w.code_words) w.pieces
  pub apart : AreAllApart (extents w)

-- Runs over a world

abbrev pub all_names : ℕ → Bool
all_names n = true

abbrev pub piece_of : StartPiece → Piece
piece_of first = first.piece

abbrev pub layout_of : World → Start → Layout
layout_of w start = record { pieces = map piece_of w.pieces; base = start.base; size = start.size }

-- in a graph each name is code
abbrev pub setting_of : World → Start → Setting
setting_of w start = record { world = layout_of w start; lo = w.lo; hi = w.hi; is_code = all_names }

abbrev pub word_cell : ℕ → Option ℕ → Cell
word_cell k None = Stale
word_cell k (Some n) = Frag (Code n) k

-- the cell of a byte, where the code words hold the addresses of these names
abbrev pub start_cell : List ℕ → StartByte → Cell
start_cell names (Given b) = Byte b
start_cell names (OfWord i k) = word_cell k (slice_get names i)
start_cell names StaleByte = Stale

abbrev pub piece_region : List ℕ → StartPiece → Region Cell
piece_region names first = record { start = (extent_of first).address; cells = map (start_cell names) first.bytes }

abbrev pub ram_region : Start → Region Cell
ram_region start = record { start = start.base; cells = map Byte (ram_at_start start) }

-- a byte in a piece belongs to the piece; another byte of RAM is that of RAM
abbrev pub regions_at_start : World → List ℕ → Start → List (Region Cell)
regions_at_start w names start = map (piece_region names) w.pieces ++ ram_region start ∷ []

-- the stack pointer sp is x2
abbrev pub first_registers : Start → ℕ → Held
first_registers start = written 2 (Holds (Num (stack_pointer start))) (λ r. Holds (Num 0))

-- all registers are numbers, 0 but for sp, and there is no reservation
abbrev pub core_at_start : World → List ℕ → Start → Core
core_at_start w names start = record {
  registers = first_registers start;
  store = record { memory = get (regions_at_start w names start); input = start.input; reservation = None };
}
