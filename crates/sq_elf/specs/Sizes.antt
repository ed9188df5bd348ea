-- How many bytes a file loads, and in how many pieces.
use Rattle.std.specs.Prelude.{ℕ, zero, suc, ◌+◌, ◌&&◌, nat_eq, nat_lt, if◌then◌else◌, List}
use Rattle.sq_elf.specs.declared.segment.Segment.{Segment}
use Rattle.sq_elf.specs.declared.text.Text.{Text}
use Rattle.sq_elf.specs.Headers.{phnum_of, is_load, segment_of}
use Rattle.sq_elf.specs.Text.{text_of, text_segment_of}

-- the sum of the first so many numbers
unfoldable pub total : (ℕ → ℕ) → ℕ → ℕ
total number zero = 0
total number (suc count) = total number count + number count

-- the file bytes of a PT_LOAD
abbrev pub loaded_at : List ℕ → ℕ → ℕ
loaded_at bytes index = if is_load bytes index then (segment_of bytes index).filesz else 0

-- the sum of filesz over all PT_LOADs
abbrev pub loaded_of : List ℕ → ℕ
loaded_of bytes = total (loaded_at bytes) (phnum_of bytes)

-- the parts of the text segment: text, and what stands before and after it
abbrev pub parts_of : Segment → Text → ℕ
parts_of s text =
    (if nat_lt s.address text.lo then 1 else 0) + 1 + (if nat_lt text.hi (s.address + s.memsz) then 1 else 0)

-- the pieces of a program header: each part of the text segment, and another PT_LOAD with memsz above 0 once
abbrev pub pieces_at : List ℕ → Text → ℕ → ℕ → ℕ
pieces_at bytes text segment index =
    if is_load bytes index && nat_lt 0 (segment_of bytes index).memsz then (if nat_eq index segment then parts_of (segment_of bytes index) text else 1) else 0

abbrev pub piece_count_of : List ℕ → ℕ
piece_count_of bytes = total (pieces_at bytes (text_of bytes) (text_segment_of bytes)) (phnum_of bytes)
