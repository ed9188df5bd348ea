-- THE table of refusals of a file, in the order that counts.
use Rattle.std.specs.Prelude.{ℕ, ◌-◌, ◌*◌, Bool, not, ◌||◌, nat_eq, nat_lt, nat_le, if◌then◌else◌, false, List, [], ◌∷◌, ◌++◌, length, slice_index, Option}
use Rattle.std.specs.Option.{is_some}
use Rattle.sq_num.specs.Refusals.{Row, first_refusal}
use Rattle.sq_num.specs.declared.refusal.Refusal.{Refusal}
use Rattle.sq_num.specs.declared.refusal.Refusal.TheVariants.{FileTooLong, NotElf, HeaderField, Flags, TableOutside, BadSegment, SegmentKind, SegmentOverlap, NoText, BadTextSection, TextSplit, TextMoved, TextTooLarge, TooLarge, BadEntry}
use Rattle.sq_elf.specs.declared.segment.Segment.{Segment}
use Rattle.sq_elf.specs.Fields.{u16_field, u32_field}
use Rattle.sq_elf.specs.Headers.{entry_of, phoff_of, phnum_of, shoff_of, shnum_of, flags_of, kind_of, segment_of}
use Rattle.sq_elf.specs.Ranges.{leaves}
use Rattle.sq_elf.specs.Segments.{is_outside, is_bad_segment, is_refused_kind, is_overlapping}
use Rattle.sq_elf.specs.Text.{text_of, text_segment_of, first_executable, is_bad_text_section, splits, is_text_word}
use Rattle.sq_elf.specs.Sizes.{loaded_of, piece_count_of}

-- a row with one place, which the test of the file decides
abbrev pub single : Bool → Refusal → Row
single fails refusal = record { places = 1; fails = λ _. fails; refusal = λ _. refusal }

-- 1: more than 134,217,728 bytes
abbrev pub file_too_long : List ℕ → Row
file_too_long bytes = single (nat_lt 134217728 (length bytes)) FileTooLong

-- the first seven bytes of ELF: magic number, 32 bits, least byte first, version 1
abbrev pub identification : List ℕ
identification = 0x7f ∷ 0x45 ∷ 0x4c ∷ 0x46 ∷ 1 ∷ 1 ∷ 1 ∷ []

-- the byte at the offset is missing, or not that of ELF
abbrev pub is_not_elf_at : List ℕ → ℕ → Bool
is_not_elf_at bytes offset = nat_le (length bytes) offset || not (nat_eq (slice_index bytes offset) (slice_index identification offset))

-- 2: the first offset of 0 to 6 at which the file is not ELF
abbrev pub not_elf : List ℕ → Row
not_elf bytes = record { places = 7; fails = is_not_elf_at bytes; refusal = NotElf }

-- 3: the length of a file shorter than the header of 52 bytes
abbrev pub short_header : List ℕ → Row
short_header bytes = single (nat_lt (length bytes) 52) (HeaderField (length bytes))

-- the field at the offset is not an accepted one: e_type ET_EXEC, e_machine EM_RISCV, e_version 1,
-- e_ehsize 52, e_phentsize 32, e_phnum 1 to 128, e_shentsize 40, e_shnum 1 to 4,096
unfoldable pub is_refused_field : List ℕ → ℕ → Bool
is_refused_field bytes offset =
    if nat_eq offset 16 then not (nat_eq (u16_field bytes 16) 2) else
    if nat_eq offset 18 then not (nat_eq (u16_field bytes 18) 243) else
    if nat_eq offset 20 then not (nat_eq (u32_field bytes 20) 1) else
    if nat_eq offset 40 then not (nat_eq (u16_field bytes 40) 52) else
    if nat_eq offset 42 then not (nat_eq (u16_field bytes 42) 32) else
    if nat_eq offset 44 then nat_lt (u16_field bytes 44) 1 || nat_lt 128 (u16_field bytes 44) else
    if nat_eq offset 46 then not (nat_eq (u16_field bytes 46) 40) else
    if nat_eq offset 48 then nat_lt (u16_field bytes 48) 1 || nat_lt 4096 (u16_field bytes 48) else
    false

-- 3, or else the first offset of the header whose field is refused
abbrev pub header_field : List ℕ → Row
header_field bytes = record { places = 52; fails = is_refused_field bytes; refusal = HeaderField }

-- 4: e_flags is not 0
abbrev pub flags : List ℕ → Row
flags bytes = single (not (nat_eq (flags_of bytes) 0)) (Flags (flags_of bytes))

-- 5: the program headers (table 1), the section headers (2) or the file bytes of a PT_LOAD (3) leave the file
abbrev pub program_table : List ℕ → Row
program_table bytes = single (leaves bytes (phoff_of bytes) (32 * phnum_of bytes)) (TableOutside 1 0)

abbrev pub section_table : List ℕ → Row
section_table bytes = single (leaves bytes (shoff_of bytes) (40 * shnum_of bytes)) (TableOutside 2 0)

abbrev pub file_bytes : List ℕ → Row
file_bytes bytes = record { places = phnum_of bytes; fails = is_outside bytes; refusal = TableOutside 3 }

-- 6: a PT_LOAD with filesz above memsz, or with vaddr + memsz or paddr + filesz above 2^32
abbrev pub bad_segment : List ℕ → Row
bad_segment bytes = record { places = phnum_of bytes; fails = is_bad_segment bytes; refusal = BadSegment }

-- 7: a program header of type PT_DYNAMIC, PT_INTERP or PT_TLS
abbrev pub segment_kind : List ℕ → Row
segment_kind bytes = record { places = phnum_of bytes; fails = is_refused_kind bytes; refusal = λ index. SegmentKind index (kind_of bytes index) }

-- 8: a range of this PT_LOAD meets one of an earlier one, or its own other range
abbrev pub segment_overlap : List ℕ → Row
segment_overlap bytes = record { places = phnum_of bytes; fails = is_overlapping bytes; refusal = SegmentOverlap }

-- 9: no executable section
abbrev pub without_text : List ℕ → Row
without_text bytes = single (not (is_some (first_executable bytes))) NoText

-- 10: an executable section that is not PROGBITS, not of whole words, or not in the file bytes of one PT_LOAD with PF_X
abbrev pub bad_text_section : List ℕ → Row
bad_text_section bytes = record { places = shnum_of bytes; fails = is_bad_text_section bytes; refusal = BadTextSection }

-- 11: an executable section in another segment than the first one, or another ALLOC section that meets text
abbrev pub text_split : List ℕ → Row
text_split bytes = record { places = shnum_of bytes; fails = splits bytes (text_of bytes) (text_segment_of bytes); refusal = TextSplit }

abbrev pub text_segment : List ℕ → Segment
text_segment bytes = segment_of bytes (text_segment_of bytes)

-- 12: the text segment's paddr is not its vaddr
abbrev pub text_moved : List ℕ → Row
text_moved bytes =
    single (not (nat_eq (text_segment bytes).load_address (text_segment bytes).address)) (TextMoved (text_segment_of bytes))

abbrev pub text_size : List ℕ → ℕ
text_size bytes = (text_of bytes).hi - (text_of bytes).lo

-- the most bytes of text, 2^20: as far as a JAL reaches
abbrev pub largest_text : ℕ
largest_text = 1048576

-- 13: more bytes of text
abbrev pub text_too_large : List ℕ → Row
text_too_large bytes = single (nat_lt largest_text (text_size bytes)) (TextTooLarge (text_size bytes))

-- 28: more than 64 pieces (kind 1), or more than 16,777,216 loaded bytes (kind 2)
abbrev pub too_many_pieces : List ℕ → Row
too_many_pieces bytes = single (nat_lt 64 (piece_count_of bytes)) (TooLarge 1 (piece_count_of bytes))

abbrev pub too_many_bytes : List ℕ → Row
too_many_bytes bytes = single (nat_lt 16777216 (loaded_of bytes)) (TooLarge 2 (loaded_of bytes))

-- 19: the entry is no word of text
abbrev pub bad_entry : List ℕ → Row
bad_entry bytes = single (not (is_text_word (text_of bytes) (entry_of bytes))) (BadEntry (entry_of bytes))

-- of the file header
abbrev pub header_rows : List ℕ → List Row
header_rows bytes = file_too_long bytes ∷ not_elf bytes ∷ short_header bytes ∷ header_field bytes ∷ flags bytes ∷ []

-- of the tables and of the segments' bytes in the file
abbrev pub table_rows : List ℕ → List Row
table_rows bytes = program_table bytes ∷ section_table bytes ∷ file_bytes bytes ∷ []

-- of the segments in memory
abbrev pub segment_rows : List ℕ → List Row
segment_rows bytes = bad_segment bytes ∷ segment_kind bytes ∷ segment_overlap bytes ∷ []

-- of text
abbrev pub text_rows : List ℕ → List Row
text_rows bytes = without_text bytes ∷ bad_text_section bytes ∷ text_split bytes ∷ text_moved bytes ∷ text_too_large bytes ∷ []

-- of sizes, and of the entry
abbrev pub size_rows : List ℕ → List Row
size_rows bytes = too_many_pieces bytes ∷ too_many_bytes bytes ∷ bad_entry bytes ∷ []

-- the whole table: 1 to 13, then 28, then 19
abbrev pub file_rows : List ℕ → List Row
file_rows bytes = header_rows bytes ++ (table_rows bytes ++ (segment_rows bytes ++ (text_rows bytes ++ size_rows bytes)))

-- THE refusal of a file by this table, or none
unfoldable pub file_refusal_of : List ℕ → Option Refusal
file_refusal_of bytes = first_refusal (file_rows bytes)
