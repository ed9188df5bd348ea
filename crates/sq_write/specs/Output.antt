-- The output file: header, piece headers, the pieces' bytes, five contents, section headers
-- (ELF32 of the System V gABI, machine number of the RISC-V ELF psABI).
use Rattle.std.specs.Prelude.{ℕ, ◌+◌, ◌-◌, ◌*◌, ◌%◌, List, [], ◌∷◌, ◌++◌, length, replicate, codes, slice_index}
use Rattle.std.specs.List.{flat_map}
use Rattle.byteorder.specs.Endian.{little_bytes}

-- fields of two bytes each, least byte first
abbrev pub halves : List ℕ → List ℕ
halves = flat_map (little_bytes 2)

-- fields of four bytes each, least byte first
abbrev pub words : List ℕ → List ℕ
words = flat_map (little_bytes 4)

-- a piece of memory as the file stores it: the bytes at its address, then zeros up to its size
pub record Piece : Type 0 where
  pub address : ℕ
  pub load_address : ℕ
  pub bytes : List ℕ
  pub size : ℕ
  pub flags : ℕ

-- a relocation entry: where, its type, and its addend. Its symbol is number 0
pub record Relocation : Type 0 where
  pub offset : ℕ
  pub kind : ℕ
  pub addend : ℕ

-- what is written: where a run starts, the pieces by address (those before text, text, those
-- behind it), the relocation entries and the note
pub record Output : Type 0 where
  pub entry : ℕ
  pub before : List Piece
  pub start : ℕ
  pub text : List ℕ
  pub after : List Piece
  pub relocations : List Relocation
  pub note : List ℕ

-- text can be read and executed (PF_R and PF_X), and is loaded where it stands
abbrev pub text_piece : Output → Piece
text_piece o = record { address = o.start; load_address = o.start; bytes = words o.text; size = length (words o.text); flags = 5 }

abbrev pub pieces_of : Output → List Piece
pieces_of o = o.before ++ text_piece o ∷ o.after

-- the file bytes of the pieces, without gaps
abbrev pub piece_bytes : List Piece → List ℕ
piece_bytes [] = []
piece_bytes (p ∷ ps) = p.bytes ++ piece_bytes ps

-- the bytes of text, and the bytes that are loaded
abbrev pub text_size : Output → ℕ
text_size o = length (words o.text)

abbrev pub loaded_size : Output → ℕ
loaded_size o = length (piece_bytes (pieces_of o))

-- a program header of type PT_LOAD and alignment 1, for a piece whose bytes are at the offset
abbrev pub piece_header : ℕ → Piece → List ℕ
piece_header offset p =
    words (1 ∷ offset ∷ p.address ∷ p.load_address ∷ length p.bytes ∷ p.size ∷ p.flags ∷ 1 ∷ [])

-- the program headers of pieces whose bytes follow each other from the offset on
abbrev pub piece_headers : ℕ → List Piece → List ℕ
piece_headers offset [] = []
piece_headers offset (p ∷ ps) = piece_header offset p ++ piece_headers (offset + length p.bytes) ps

-- where the pieces' bytes begin, behind a header of 52 bytes and program headers of 32
abbrev pub pieces_at : ℕ → ℕ
pieces_at count = 52 + 32 * count

-- how many zeros lead from an offset to a multiple of 4
abbrev pub gap : ℕ → ℕ
gap offset = (4 - offset % 4) % 4

-- parts one behind another from an offset on, each at the next multiple of 4, gaps zero
abbrev pub layout : ℕ → List (List ℕ) → List ℕ
layout offset [] = []
layout offset (part ∷ parts) = replicate (gap offset) 0 ++ (part ++ layout (offset + gap offset + length part) parts)

-- where each of these parts stands
abbrev pub offsets : ℕ → List (List ℕ) → List ℕ
offsets offset [] = []
offsets offset (part ∷ parts) = (offset + gap offset) ∷ offsets (offset + gap offset + length part) parts

-- where the next part behind these would stand
abbrev pub end_of : ℕ → List (List ℕ) → ℕ
end_of offset [] = offset + gap offset
end_of offset (part ∷ parts) = end_of (offset + gap offset + length part) parts

-- a symbol table of one undefined symbol, and its names
abbrev pub symbol_table : List ℕ
symbol_table = replicate 16 0

abbrev pub symbol_names : List ℕ
symbol_names = 0 ∷ []

-- a zero, then the six names of sections, each with a zero
abbrev pub section_names : List ℕ
section_names =
    (0 ∷ []) ++ codes ".text" ++ (0 ∷ []) ++ codes ".symtab" ++ (0 ∷ []) ++ codes ".strtab" ++ (0 ∷ []) ++ codes ".rela.text" ++ (0 ∷ [])
    ++ codes ".squeeze" ++ (0 ∷ []) ++ codes ".shstrtab" ++ (0 ∷ [])

-- the relocation entries: offset, symbol 0 and type, addend
abbrev pub relocation_table : List Relocation → List ℕ
relocation_table [] = []
relocation_table (r ∷ rs) = words (r.offset ∷ r.kind ∷ r.addend ∷ []) ++ relocation_table rs

-- the contents of sections 2 to 6
abbrev pub contents_of : Output → List (List ℕ)
contents_of o = symbol_table ∷ symbol_names ∷ relocation_table o.relocations ∷ o.note ∷ section_names ∷ []

-- a section header
pub record Section : Type 0 where
  pub name : ℕ
  pub kind : ℕ
  pub flags : ℕ
  pub address : ℕ
  pub offset : ℕ
  pub size : ℕ
  pub link : ℕ
  pub info : ℕ
  pub align : ℕ
  pub entry_size : ℕ

abbrev pub section_header : Section → List ℕ
section_header s =
    words (s.name ∷ s.kind ∷ s.flags ∷ s.address ∷ s.offset ∷ s.size ∷ s.link ∷ s.info ∷ s.align ∷ s.entry_size ∷ [])

abbrev pub section_table : List Section → List ℕ
section_table [] = []
section_table (s ∷ ss) = section_header s ++ section_table ss

-- the type of the section that holds the note
abbrev pub note_kind : ℕ
note_kind = 0x80515a31

-- the seven sections of a file whose text has these bytes at the offset, and whose contents stand at the places
abbrev pub sections_of : Output → ℕ → List ℕ → List Section
sections_of o text_offset places =
    record { name = 0; kind = 0; flags = 0; address = 0; offset = 0; size = 0; link = 0; info = 0; align = 0; entry_size = 0 }
    ∷ record { name = 1; kind = 1; flags = 6; address = o.start; offset = text_offset; size = text_size o; link = 0; info = 0; align = 4; entry_size = 0 }
    ∷ record { name = 7; kind = 2; flags = 0; address = 0; offset = slice_index places 0; size = length symbol_table; link = 3; info = 1; align = 4; entry_size = 16 }
    ∷ record { name = 15; kind = 3; flags = 0; address = 0; offset = slice_index places 1; size = length symbol_names; link = 0; info = 0; align = 1; entry_size = 0 }
    ∷ record { name = 23; kind = 4; flags = 0; address = 0; offset = slice_index places 2; size = length (relocation_table o.relocations); link = 2; info = 1; align = 4; entry_size = 12 }
    ∷ record { name = 34; kind = note_kind; flags = 0; address = 0; offset = slice_index places 3; size = length o.note; link = 0; info = 0; align = 4; entry_size = 0 }
    ∷ record { name = 43; kind = 3; flags = 0; address = 0; offset = slice_index places 4; size = length section_names; link = 0; info = 0; align = 1; entry_size = 0 }
    ∷ []

-- the file header of an executable for RISC-V, with seven section headers at the offset
abbrev pub file_header : ℕ → ℕ → ℕ → List ℕ
file_header entry count sections_at =
    (0x7f ∷ 0x45 ∷ 0x4c ∷ 0x46 ∷ 1 ∷ 1 ∷ 1 ∷ 0 ∷ 0 ∷ 0 ∷ 0 ∷ 0 ∷ 0 ∷ 0 ∷ 0 ∷ 0 ∷ [])
    ++ halves (2 ∷ 243 ∷ []) ++ words (1 ∷ entry ∷ 52 ∷ sections_at ∷ 0 ∷ []) ++ halves (52 ∷ 32 ∷ count ∷ 40 ∷ 7 ∷ 6 ∷ [])

-- where the contents begin: behind the pieces
abbrev pub contents_at : Output → ℕ
contents_at o = pieces_at (length (pieces_of o)) + loaded_size o

-- the output file
abbrev pub output_file : Output → List ℕ
output_file o =
    let pieces : List Piece = pieces_of o in
    let contents : List (List ℕ) = contents_of o in
    let text_at : ℕ = pieces_at (length pieces) + length (piece_bytes o.before) in
    let table : List ℕ = section_table (sections_of o text_at (offsets (contents_at o) contents)) in
    file_header o.entry (length pieces) (end_of (contents_at o) contents) ++ piece_headers (pieces_at (length pieces)) pieces ++ piece_bytes pieces
    ++ layout (contents_at o) (contents ++ table ∷ [])
