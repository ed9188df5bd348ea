-- What stands in memory where a watched run of a file starts.
use Rattle.std.specs.Prelude.{ℕ, ◌+◌, ◌-◌, ◌%◌, List, [], ◌∷◌, ◌++◌, length, replicate, Option, Some, None, nat_lt, if◌then◌else◌}
use Rattle.sq_elf.specs.declared.segment.Segment.{Segment}
use Rattle.sq_elf.specs.Memory.{MemoryPiece, own_piece, copy_piece}
use Rattle.sq_elf.specs.Segments.{copy_size}
use Rattle.sq_reloc.specs.Outside.{code_word_at, is_stale, word_start}
use Rattle.sq_memory.specs.Regions.{Region}
use Rattle.sq_system.specs.declared.piece.Piece.{Piece}
use Rattle.law_follow.specs.Values.{Code, Cell, Byte, Frag, Stale}

-- part k of a code word's target, where there is one
abbrev pub part_or : ℕ → Option ℕ → Cell → Cell
part_or k None other = other
part_or k (Some to) other = Frag (Code to) k

abbrev pub stale_or : List ℕ → ℕ → ℕ → Cell
stale_or bytes x b = if is_stale bytes x then Stale else Byte b

-- what the byte b at the virtual address x is at the start
abbrev pub file_cell : List ℕ → ℕ → ℕ → Cell
file_cell bytes x b = part_or (x % 4) (code_word_at bytes (word_start x)) (stale_or bytes x b)

-- these bytes, which stand from the virtual address x on
abbrev pub file_cells : List ℕ → ℕ → List ℕ → List Cell
file_cells bytes x [] = []
file_cells bytes x (b ∷ rest) = file_cell bytes x b ∷ file_cells bytes (x + 1) rest

abbrev pub region_at : ℕ → List Cell → Region Cell
region_at address cells = record { start = address; cells = cells }

-- a piece of a segment, whose first byte stands at the virtual address x
abbrev pub file_region : List ℕ → ℕ → MemoryPiece → Region Cell
file_region bytes x p = region_at p.address (file_cells bytes x (p.bytes ++ replicate (p.length - length p.bytes) 0))

abbrev pub file_piece : MemoryPiece → Piece
file_piece p = record { extent = record { address = p.address; length = p.length }; flags = p.flags }

-- A load copy starts with what stands at the virtual addresses. What relocations say comes from the first bytes, which
-- are those of the file too.
abbrev pub segment_regions : List ℕ → List ℕ → Segment → List (Region Cell)
segment_regions marked bytes s =
    file_region marked s.address (own_piece bytes s)
    ∷ (if nat_lt 0 (copy_size s) then file_region marked s.address (copy_piece bytes s) ∷ [] else [])

abbrev pub segment_layout : List ℕ → Segment → List Piece
segment_layout bytes s =
    file_piece (own_piece bytes s) ∷ (if nat_lt 0 (copy_size s) then file_piece (copy_piece bytes s) ∷ [] else [])
