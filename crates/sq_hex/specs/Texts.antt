-- The text that is written for a file.
use Rattle.std.specs.Prelude.{◌≡◌, ℕ, ◌+◌, ◌-◌, ◌/◌, ◌%◌, Bool, false, nat_eq, if◌then◌else◌, List, [], ◌∷◌, ◌++◌, length, sum, flat_map, Option, Some, None}
use Rattle.hex.specs.Hex.{encode_upper}
use Rattle.sq_elf.specs.declared.segment.Segment.{Segment}
use Rattle.sq_elf.specs.Headers.{entry_of}
use Rattle.sq_hex.specs.Flash.{AreLoads, Range, ranges_of}

-- the bytes, and the one that makes their sum 0 modulo 256
abbrev pub summed : List ℕ → List ℕ
summed bytes = bytes ++ ((256 - sum bytes % 256) % 256) ∷ []

-- the bytes of a record of this type
abbrev pub record_bytes : ℕ → ℕ → List ℕ → List ℕ
record_bytes type offset bytes = summed (length bytes ∷ offset / 256 ∷ offset % 256 ∷ type ∷ bytes)

-- its line: a colon, upper case digits, a newline
unfoldable pub record_line : ℕ → ℕ → List ℕ → List ℕ
record_line type offset bytes = 58 ∷ encode_upper (record_bytes type offset bytes) ++ 10 ∷ []

-- the byte in front of the first of some ranges
abbrev pub joined : ℕ → ℕ → List Range → List Range
joined address byte [] = (address, byte ∷ []) ∷ []
joined address byte (range ∷ ranges) = (address, byte ∷ range.1) ∷ ranges

-- a range, cut at each multiple of 16
unfoldable pub cut : ℕ → List ℕ → List Range
cut address [] = []
cut address (byte ∷ bytes) =
    if nat_eq ((address + 1) % 16) 0 then (address, byte ∷ []) ∷ cut (address + 1) bytes
    else joined address byte (cut (address + 1) bytes)

-- a number in two bytes, the highest first
abbrev pub two_bytes : ℕ → List ℕ
two_bytes number = number / 256 ∷ number % 256 ∷ []

abbrev pub is_base : Option ℕ → ℕ → Bool
is_base None high = false
is_base (Some base) high = nat_eq base high

-- the record of a base, where the upper half of the address is not that of the last base
abbrev pub base_line : Option ℕ → ℕ → List ℕ
base_line base high = if is_base base high then [] else record_line 4 0 (two_bytes high)

-- the records of some ranges, behind a record of this base if there was any
unfoldable pub data_text : Option ℕ → List Range → List ℕ
data_text base [] = []
data_text base (range ∷ ranges) =
    base_line base (range.0 / 65536) ++ (record_line 0 (range.0 % 65536) range.1 ++ data_text (Some (range.0 / 65536)) ranges)

-- the record of a start, and that of the end
abbrev pub last_lines : ℕ → List ℕ
last_lines entry = record_line 5 0 (two_bytes (entry / 65536) ++ two_bytes (entry % 65536)) ++ record_line 1 0 []

-- the text of some ranges and of an entry
unfoldable pub text_of_ranges : List Range → ℕ → List ℕ
text_of_ranges ranges entry = data_text None (flat_map (λ range. cut range.0 range.1) ranges) ++ last_lines entry

-- THE text of a file: of its ranges by load address, and of its entry
pub record IsHexTextOf (file : List ℕ) (text : List ℕ) : Type 0 where
  pub segments : List Segment
  pub loads : AreLoads file segments
  pub is : text ≡ text_of_ranges (ranges_of file segments) (entry_of file)
