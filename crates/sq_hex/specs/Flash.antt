-- What flash holds of a file: the file bytes of each PT_LOAD with memsz above 0, at its load address.
use Rattle.std.specs.Prelude.{◌≡◌, ℕ, ◌+◌, ◌↔◌, List, [], ◌∷◌, map, flat_map, Some}
use Rattle.std.specs.List.{Contains}
use Rattle.std.specs.List.Sorted.{IsPermutation, IsNonDecreasingBy, IsStrictlySortedBy}
use Rattle.std.specs.Ordering.{nat_cmp}
use Rattle.std.specs.Map.{keys_of}
use Rattle.sq_elf.specs.declared.segment.Segment.{Segment}
use Rattle.sq_elf.specs.Headers.{entry_of}
use Rattle.sq_elf.specs.Memory.{segments_of, file_bytes_of}
use Rattle.sq_hex.specs.Meaning.{HexMeaning}

-- the bytes, one after another from the address on
abbrev pub placed : ℕ → List ℕ → List (ℕ × ℕ)
placed address [] = []
placed address (byte ∷ bytes) = (address, byte) ∷ placed (address + 1) bytes

-- some segment of the file has this byte at this load address
abbrev pub IsLoaded : List ℕ → ℕ × ℕ → Type 0
IsLoaded file entry = (s : Segment) × Contains (segments_of file) s × Contains (placed s.load_address (file_bytes_of file s)) entry

-- these bytes are THE flash of the file: each of them stands once, by address
pub record IsFlash (file : List ℕ) (bytes : List (ℕ × ℕ)) : Type 0 where
  pub ascending : IsStrictlySortedBy nat_cmp (keys_of bytes)
  pub each : (entry : ℕ × ℕ) → Contains bytes entry ↔ IsLoaded file entry

-- a meaning that is exactly the flash and the entry of the file
pub record IsFlashOf (file : List ℕ) (meaning : HexMeaning) : Type 0 where
  pub flash : IsFlash file meaning.bytes
  pub entry : meaning.start ≡ Some (entry_of file)

-- these are the segments of the file, by load address
pub record AreLoads (file : List ℕ) (segments : List Segment) : Type 0 where
  pub all : IsPermutation (segments_of file) segments
  pub ascending : IsNonDecreasingBy (λ s. s.load_address) segments

-- a range of memory: where it begins, and its bytes
abbrev pub Range : Type 0
Range = ℕ × List ℕ

-- the ranges of flash
abbrev pub ranges_of : List ℕ → List Segment → List Range
ranges_of file segments = map (λ s. (s.load_address, file_bytes_of file s)) segments

-- their bytes, each at its address
abbrev pub bytes_of : List Range → List (ℕ × ℕ)
bytes_of ranges = flat_map (λ range. placed range.0 range.1) ranges
