-- Starts of the plain machine: what a run starts with, where its arguments stand, and which starts
-- are valid. These are this project's own rules.
use Rattle.std.specs.Prelude.{◌≡◌, ℕ, ◌+◌, ◌-◌, ◌*◌, ◌/◌, ◌%◌, ◌^◌, ◌≤◌, ◌<◌, ◌⊎◌, List, [], ◌∷◌, ◌++◌, length, drop, replicate, Any, Bool, nat_lt, max, ◌&&◌}
use Rattle.std.specs.List.{flat_map}
use Rattle.byteorder.specs.Endian.{little_bytes}
use Rattle.sq_system.specs.declared.start.Start.{Start as RustStart}
use Rattle.sq_system.specs.declared.start.Extent.{Extent}

-- what a run starts with: the arguments and the input as lists of bytes, and RAM
pub record Start : Type 0 where
  pub arguments : List (List ℕ)
  pub input : List ℕ
  pub base : ℕ
  pub size : ℕ

-- the arguments are the words from number `skip` on
abbrev pub start_of : RustStart → Start
start_of start =
    record { arguments = drop start.skip start.words.now; input = start.input.now; base = start.base; size = start.size }

-- RAM is from the base up to, without, its end
abbrev pub ram_end : Start → ℕ
ram_end start = start.base + start.size

-- both multiples of 16, the size from 16 to 16,777,216, the end at most 2^32
pub record StartFits (base size : ℕ) : Type 0 where
  pub base_multiple : base % 16 ≡ 0
  pub size_multiple : size % 16 ≡ 0
  pub least : 16 ≤ size
  pub most : size ≤ 16777216
  pub end : base + size ≤ 2 ^ 32

-- the arguments in order, each with a zero byte
abbrev pub argument_bytes : List (List ℕ) → List ℕ
argument_bytes [] = []
argument_bytes (argument ∷ rest) = argument ++ (0 ∷ argument_bytes rest)

-- the addresses of arguments that stand so from an address on
abbrev pub addresses_from : ℕ → List (List ℕ) → List ℕ
addresses_from at [] = []
addresses_from at (argument ∷ rest) = at ∷ addresses_from (at + length argument + 1) rest

-- how many bytes argc, the addresses of the arguments and two zero words take
abbrev pub word_room : Start → ℕ
word_room start = 4 * (length start.arguments + 3)

-- how many bytes these words and the arguments take
abbrev pub area_room : Start → ℕ
area_room start = word_room start + length (argument_bytes start.arguments)

-- where the arguments' bytes start: the last one ends at the end of RAM
abbrev pub arguments_at : Start → ℕ
arguments_at start = ram_end start - length (argument_bytes start.arguments)

-- room for the words before the arguments' bytes, rounded down to a multiple of 16
abbrev pub stack_pointer : Start → ℕ
stack_pointer start = (arguments_at start - word_room start) / 16 * 16

-- the stack pointer is not below the base; an argument area that is larger than what stands below
-- the end of RAM has none
pub record HasRoom (start : Start) : Type 0 where
  pub above_zero : area_room start ≤ ram_end start
  pub above_base : start.base ≤ stack_pointer start

-- words of four bytes each, the least byte first
abbrev pub word_bytes : List ℕ → List ℕ
word_bytes = flat_map (little_bytes 4)

-- argc, the addresses of the arguments, and two zero words
abbrev pub argument_words : Start → List ℕ
argument_words start =
    (length start.arguments ∷ addresses_from (arguments_at start) start.arguments) ++ (0 ∷ 0 ∷ [])

-- the bytes from the stack pointer up to, without, the end of RAM; between words and arguments RAM is 0
unfoldable pub argument_area : Start → List ℕ
argument_area start =
    word_bytes (argument_words start)
    ++ replicate (arguments_at start - (stack_pointer start + word_room start)) 0
    ++ argument_bytes start.arguments

-- RAM as a run starts with it: 0 up to the stack pointer, and then the argument area
abbrev pub ram_at_start : Start → List ℕ
ram_at_start start = replicate (stack_pointer start - start.base) 0 ++ argument_area start

-- the byte at x is in the piece
pub record IsIn (x : ℕ) (piece : Extent) : Type 0 where
  pub from : piece.address ≤ x
  pub below : x < piece.address + piece.length

-- a byte from `from` up to, without, `to` is in the piece
abbrev pub Meets : ℕ → ℕ → Extent → Type 0
Meets from to piece = (x : ℕ) × (from ≤ x) × (x < to) × IsIn x piece

-- whether one is: it can be the first byte of the piece that is not before `from`
abbrev pub meets : ℕ → ℕ → Extent → Bool
meets from to piece =
    nat_lt (max piece.address from) to && nat_lt (max piece.address from) (piece.address + piece.length)

-- the stack pointer is below the base, or a byte from it to the end of RAM is in a piece
abbrev pub IsBadStart : List Extent → Start → Type 0
IsBadStart pieces start = (¬ HasRoom start) ⊎ Any (Meets (stack_pointer start) (ram_end start)) pieces

-- a start that fits and is not bad
pub record IsValidStart (pieces : List Extent) (start : Start) : Type 0 where
  pub fits : StartFits start.base start.size
  pub good : ¬ IsBadStart pieces start
