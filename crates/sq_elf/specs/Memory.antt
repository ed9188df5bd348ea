-- What a file loads: its segments by address, and the image.
use Rattle.std.specs.Prelude.{◌≡◌, ℕ, zero, suc, Bool, false, ◌&&◌, nat_lt, if◌then◌else◌, List, [], ◌∷◌, ◌++◌}
use Rattle.std.specs.Option.{unwrap_or}
use Rattle.std.specs.List.{AllByRecursion}
use Rattle.std.specs.List.Sorted.{IsPermutation, IsNonDecreasingBy}
use Rattle.sq_elf.specs.declared.segment.Segment.{Segment}
use Rattle.sq_elf.specs.Headers.{phnum_of, is_load, segment_of}
use Rattle.sq_elf.specs.Ranges.{meets, bytes_at}
use Rattle.sq_elf.specs.Segments.{copy_size}

-- a PT_LOAD with memsz above 0
abbrev pub has_memory : List ℕ → ℕ → Bool
has_memory bytes index = is_load bytes index && nat_lt 0 (segment_of bytes index).memsz

-- those among the first so many program headers
unfoldable pub segments_before : List ℕ → ℕ → List Segment
segments_before bytes zero = []
segments_before bytes (suc count) =
    if has_memory bytes count then segments_before bytes count ++ segment_of bytes count ∷ [] else segments_before bytes count

-- the segments of a file, in the order of its program headers
abbrev pub segments_of : List ℕ → List Segment
segments_of bytes = segments_before bytes (phnum_of bytes)

-- these are the segments of the file, by address
pub record AreSegments (bytes : List ℕ) (segments : List Segment) : Type 0 where
  pub all : IsPermutation (segments_of bytes) segments
  pub ascending : IsNonDecreasingBy (λ s. s.address) segments

-- a piece of memory: `length` bytes from an address on, first these bytes and then zeros
pub record MemoryPiece : Type 0 where
  pub address : ℕ
  pub bytes : List ℕ
  pub length : ℕ
  pub flags : ℕ

-- the file bytes of a segment, which never leave an accepted file
abbrev pub file_bytes_of : List ℕ → Segment → List ℕ
file_bytes_of bytes s = unwrap_or (bytes_at bytes s.offset s.filesz) []

-- memsz bytes at vaddr
abbrev pub own_piece : List ℕ → Segment → MemoryPiece
own_piece bytes s = record { address = s.address; bytes = file_bytes_of bytes s; length = s.memsz; flags = s.flags }

-- the load copy: the file bytes at paddr, which can only be read (PF_R)
abbrev pub copy_piece : List ℕ → Segment → MemoryPiece
copy_piece bytes s = record { address = s.load_address; bytes = file_bytes_of bytes s; length = s.filesz; flags = 4 }

-- the pieces of a segment: it, and its load copy where paddr is not vaddr and there are file bytes
abbrev pub segment_pieces : List ℕ → Segment → List MemoryPiece
segment_pieces bytes s = own_piece bytes s ∷ (if nat_lt 0 (copy_size s) then copy_piece bytes s ∷ [] else [])

-- the pieces of the first so many program headers
unfoldable pub image_before : List ℕ → ℕ → List MemoryPiece
image_before bytes zero = []
image_before bytes (suc count) =
    if has_memory bytes count then image_before bytes count ++ segment_pieces bytes (segment_of bytes count) else image_before bytes count

-- THE image of a file, in the order of its program headers
abbrev pub image_of : List ℕ → List MemoryPiece
image_of bytes = image_before bytes (phnum_of bytes)

-- two pieces have a byte of memory in common
abbrev pub pieces_meet : MemoryPiece → MemoryPiece → Bool
pieces_meet p q = meets p.address p.length q.address q.length

-- no two of the pieces meet
abbrev pub AreApart : List MemoryPiece → Type 0
AreApart [] = Unit {0}
AreApart (p ∷ ps) = AllByRecursion (λ q. pieces_meet p q ≡ false) ps × AreApart ps
