-- What a reader of files finds in an output file.
use Rattle.std.specs.Prelude.{◌≡◌, ◌≤◌, ℕ, ◌+◌, true, nat_eq, nat_lt, if◌then◌else◌, List, [], ◌∷◌, length, take, Some}
use Rattle.std.specs.List.{slice_get, flat_map}
use Rattle.sq_elf.specs.declared.segment.Segment.{Segment}
use Rattle.sq_elf.specs.declared.section.Section.{Section as ReadSection}
use Rattle.sq_elf.specs.Fields.{u16_field, u32_field}
use Rattle.sq_elf.specs.Headers.{entry_of, phoff_of, phnum_of, shoff_of, shnum_of, flags_of, is_load, segment_of, section_of}
use Rattle.sq_elf.specs.Memory.{segments_of, file_bytes_of, MemoryPiece, image_of}
use Rattle.sq_elf.specs.Reading.{contents_of as section_contents}
use Rattle.sq_elf.specs.Refusing.{identification}
use Rattle.sq_elf.specs.Sizes.{loaded_of}
use Rattle.sq_elf.specs.Text.{text_of}
use Rattle.sq_write.specs.Output.{words, Piece, Output, pieces_of, pieces_at, piece_bytes, loaded_size, text_size, contents_at, contents_of, offsets, end_of, Section, sections_of, output_file}
use Rattle.law_written.specs.Fitting.{IsFitting}

-- the file header of an output: its entry, a program header for each piece behind 52 bytes, and seven section headers
pub record IsHeader (bytes : List ℕ) (o : Output) : Type 0 where
  pub identified : take 7 bytes ≡ identification
  pub kind : u16_field bytes 16 ≡ 2
  pub machine : u16_field bytes 18 ≡ 243
  pub version : u32_field bytes 20 ≡ 1
  pub entry : entry_of bytes ≡ o.entry
  pub program_headers : phoff_of bytes ≡ 52
  pub section_headers : shoff_of bytes ≡ end_of (contents_at o) (contents_of o)
  pub flags : flags_of bytes ≡ 0
  pub header_size : u16_field bytes 40 ≡ 52
  pub program_header_size : u16_field bytes 42 ≡ 32
  pub pieces : phnum_of bytes ≡ length (pieces_of o)
  pub section_header_size : u16_field bytes 46 ≡ 40
  pub sections : shnum_of bytes ≡ 7

-- The file header of an output file is read as that of the output, and the section headers end the file.
abbrev pub HeadersAreRead : Type 0
HeadersAreRead =
    (o : Output) → IsFitting o
    → IsHeader (output_file o) o × (end_of (contents_at o) (contents_of o) + 280 ≡ length (output_file o))

-- the segment of a piece whose bytes are at the offset
abbrev pub segment_at : ℕ → Piece → Segment
segment_at offset p = record {
  offset = offset;
  address = p.address;
  load_address = p.load_address;
  filesz = length p.bytes;
  memsz = p.size;
  flags = p.flags;
}

-- the segments of pieces whose bytes follow each other from the offset on
abbrev pub segments_at : ℕ → List Piece → List Segment
segments_at offset [] = []
segments_at offset (p ∷ ps) = segment_at offset p ∷ segments_at (offset + length p.bytes) ps

-- the segments of an output
abbrev pub output_segments : Output → List Segment
output_segments o = segments_at (pieces_at (length (pieces_of o))) (pieces_of o)

-- the size of a piece's load copy: its bytes at the load address, where that is elsewhere
abbrev pub copied : Piece → ℕ
copied p = if nat_eq p.load_address p.address then 0 else length p.bytes

-- what a piece loads: it, and its load copy, which can only be read
abbrev pub piece_image : Piece → List MemoryPiece
piece_image p =
    record { address = p.address; bytes = p.bytes; length = p.size; flags = p.flags }
    ∷ (if nat_lt 0 (copied p) then record { address = p.load_address; bytes = p.bytes; length = length p.bytes; flags = 4 } ∷ [] else [])

-- each program header of an output file is that of its piece, with the piece's bytes, which stand in the file
pub record IsSegment (bytes : List ℕ) (k : ℕ) (p : Piece) (s : Segment) : Type 0 where
  pub load : is_load bytes k ≡ true
  pub is : segment_of bytes k ≡ s
  pub inside : s.offset + s.filesz ≤ length bytes
  pub stored : file_bytes_of bytes s ≡ p.bytes

abbrev pub ProgramHeadersAreRead : Type 0
ProgramHeadersAreRead =
    (o : Output) → IsFitting o → (k : ℕ) (p : Piece) (s : Segment) → slice_get (pieces_of o) k ≡ Some p
    → slice_get (output_segments o) k ≡ Some s → IsSegment (output_file o) k p s

-- The segments of an output file are its pieces, in order; they load the pieces' bytes, and make the pieces' image.
pub record IsLoaded (bytes : List ℕ) (o : Output) : Type 0 where
  pub segments : segments_of bytes ≡ output_segments o
  pub size : loaded_of bytes ≡ loaded_size o
  pub image : image_of bytes ≡ flat_map piece_image (pieces_of o)

abbrev pub SegmentsAreRead : Type 0
SegmentsAreRead = (o : Output) → IsFitting o → IsLoaded (output_file o) o

-- a section header as it is read
abbrev pub seen : Section → ReadSection
seen s = record {
  kind = s.kind;
  flags = s.flags;
  address = s.address;
  offset = s.offset;
  size = s.size;
  link = s.link;
  info = s.info;
  entsize = s.entry_size;
}

-- the sections of an output
abbrev pub output_sections : Output → List Section
output_sections o =
    sections_of o (pieces_at (length (pieces_of o)) + length (piece_bytes o.before)) (offsets (contents_at o) (contents_of o))

-- the bytes of the sections: none, text, and the five contents
abbrev pub section_parts : Output → List (List ℕ)
section_parts o = [] ∷ words o.text ∷ contents_of o

-- Each section of an output file is read as it was written, with its bytes.
abbrev pub SectionsAreRead : Type 0
SectionsAreRead =
    (o : Output) → IsFitting o → (k : ℕ) (s : Section) (part : List ℕ) → slice_get (output_sections o) k ≡ Some s
    → slice_get (section_parts o) k ≡ Some part
    → (section_of (output_file o) k ≡ seen s) × (section_contents (output_file o) k ≡ Some part)

-- The text of an output file is that of its text piece.
abbrev pub TextIsRead : Type 0
TextIsRead = (o : Output) → IsFitting o → text_of (output_file o) ≡ record { lo = o.start; hi = o.start + text_size o }
