-- The file header, the program headers and the section headers (System V gABI, ELF32).
use Rattle.std.specs.Prelude.{ℕ, ◌+◌, ◌*◌, Bool, nat_eq, if◌then◌else◌, List}
use Rattle.sq_elf.specs.Fields.{u16_field, u32_field}
use Rattle.sq_elf.specs.declared.segment.Segment.{Segment}
use Rattle.sq_elf.specs.declared.section.Section.{Section}

-- e_entry: where a run starts
abbrev pub entry_of : List ℕ → ℕ
entry_of bytes = u32_field bytes 24

-- e_phoff and e_phnum: where the program headers stand, and how many there are
abbrev pub phoff_of : List ℕ → ℕ
phoff_of bytes = u32_field bytes 28

abbrev pub phnum_of : List ℕ → ℕ
phnum_of bytes = u16_field bytes 44

-- e_shoff and e_shnum: where the section headers stand, and how many there are
abbrev pub shoff_of : List ℕ → ℕ
shoff_of bytes = u32_field bytes 32

abbrev pub shnum_of : List ℕ → ℕ
shnum_of bytes = u16_field bytes 48

-- e_flags
abbrev pub flags_of : List ℕ → ℕ
flags_of bytes = u32_field bytes 36

-- a program header is eight numbers: type, offset, vaddr, paddr, filesz, memsz, flags, align
abbrev pub program_field : List ℕ → ℕ → ℕ → ℕ
program_field bytes index field = u32_field bytes (phoff_of bytes + 32 * index + 4 * field)

-- p_type of program header `index`
abbrev pub kind_of : List ℕ → ℕ → ℕ
kind_of bytes index = program_field bytes index 0

-- PT_LOAD
abbrev pub is_load : List ℕ → ℕ → Bool
is_load bytes index = nat_eq (kind_of bytes index) 1

-- what program header `index` says of a segment
unfoldable pub segment_of : List ℕ → ℕ → Segment
segment_of bytes index = record {
  offset = program_field bytes index 1;
  address = program_field bytes index 2;
  load_address = program_field bytes index 3;
  filesz = program_field bytes index 4;
  memsz = program_field bytes index 5;
  flags = program_field bytes index 6;
}

-- a section header is ten numbers: name, type, flags, addr, offset, size, link, info, addralign, entsize
abbrev pub section_field : List ℕ → ℕ → ℕ → ℕ
section_field bytes index field = u32_field bytes (shoff_of bytes + 40 * index + 4 * field)

abbrev pub no_section : Section
no_section = record { kind = 0; flags = 0; address = 0; offset = 0; size = 0; link = 0; info = 0; entsize = 0 }

abbrev pub section_header : List ℕ → ℕ → Section
section_header bytes index = record {
  kind = section_field bytes index 1;
  flags = section_field bytes index 2;
  address = section_field bytes index 3;
  offset = section_field bytes index 4;
  size = section_field bytes index 5;
  link = section_field bytes index 6;
  info = section_field bytes index 7;
  entsize = section_field bytes index 9;
}

-- section `index`; section 0 is never looked at, and counts as ten zeros
unfoldable pub section_of : List ℕ → ℕ → Section
section_of bytes index = if nat_eq index 0 then no_section else section_header bytes index
