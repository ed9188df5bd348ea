-- Values that tell where they came from. A name is a block of a graph, or on a file the address itself.
use Rattle.std.specs.Prelude.{ℕ, ◌+◌, Bool, true, false, ◌==◌, ◌&&◌, List, [], ◌∷◌, Option, Some, None, map, if◌then◌else◌}
use Rattle.byteorder.specs.Endian.{little_bytes}

-- the address of a name, or the upper half of one. On a file an upper half has the word that was made.
pub data Tag : Type 0 where
  Code : ℕ → Tag
  Part : ℕ → Option ℕ → Tag

pub data Value : Type 0 where
  Num : ℕ → Value
  Tagged : Tag → Value

-- a number, part k of a tagged value, or what no load may read
pub data Cell : Type 0 where
  Byte : ℕ → Cell
  Frag : Tag → ℕ → Cell
  Stale : Cell

-- what a register holds: a value, or in the run of a graph what a procedure's call leaves in its link
pub data Held : Type 0 where
  Holds : Value → Held
  Lost : Held

abbrev pub same_word : Option ℕ → Option ℕ → Bool
same_word None None = true
same_word None (Some w) = false
same_word (Some v) None = false
same_word (Some v) (Some w) = v == w

abbrev pub same_tag : Tag → Tag → Bool
same_tag (Code n) (Code m) = n == m
same_tag (Code n) (Part m w) = false
same_tag (Part n v) (Code m) = false
same_tag (Part n v) (Part m w) = n == m && same_word v w

abbrev pub is_tagged : Value → Bool
is_tagged (Num x) = false
is_tagged (Tagged tag) = true

abbrev pub is_stale : Cell → Bool
is_stale (Byte b) = false
is_stale (Frag tag k) = false
is_stale Stale = true

abbrev pub is_fragment : Cell → Bool
is_fragment (Byte b) = false
is_fragment (Frag tag k) = true
is_fragment Stale = false

-- the number of a cell that has one
abbrev pub byte_of : Cell → ℕ
byte_of (Byte b) = b
byte_of (Frag tag k) = 0
byte_of Stale = 0

-- part k of this value
abbrev pub is_part_of : Tag → ℕ → Cell → Bool
is_part_of tag k (Byte b) = false
is_part_of tag k (Frag other j) = same_tag tag other && j == k
is_part_of tag k Stale = false

-- part k of this value, and so on
abbrev pub are_parts_of : Tag → ℕ → List Cell → Bool
are_parts_of tag k [] = true
are_parts_of tag k (cell ∷ cells) = is_part_of tag k cell && are_parts_of tag (k + 1) cells

-- the value whose parts 0, 1 and so on are these cells
abbrev pub whole : List Cell → Option Tag
whole [] = None
whole (Byte b ∷ cells) = None
whole (Frag tag k ∷ cells) = if are_parts_of tag 0 (Frag tag k ∷ cells) then Some tag else None
whole (Stale ∷ cells) = None

-- the cells of a value that is stored in so many bytes; a tagged one is stored in four
abbrev pub cells_of : ℕ → Value → List Cell
cells_of width (Num x) = map Byte (little_bytes width x)
cells_of width (Tagged tag) = Frag tag 0 ∷ Frag tag 1 ∷ Frag tag 2 ∷ Frag tag 3 ∷ []
