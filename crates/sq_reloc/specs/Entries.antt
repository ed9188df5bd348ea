-- The entries of a file: those of RELA sections for what is in memory (System V gABI, Elf32_Rela; the types are
-- those of the RISC-V ELF psABI).
use Rattle.std.specs.Prelude.{ℕ, zero, suc, ◌+◌, ◌*◌, ◌/◌, ◌%◌, ◌^◌, Bool, false, ◌&&◌, nat_eq, bit_and, if◌then◌else◌, List, [], ◌∷◌, ◌++◌, Option, Some, None}
use Rattle.std.specs.Option.{option_map, option_and_then}
use Rattle.std.specs.List.{find}
use Rattle.sq_elf.specs.declared.section.Section.{Section}
use Rattle.sq_elf.specs.Fields.{u32_field}
use Rattle.sq_elf.specs.Headers.{shnum_of}
use Rattle.sq_elf.specs.Reading.{section_at}
use Rattle.sq_reloc.specs.declared.entry.Entry.{Entry}
use Rattle.sq_reloc.specs.Kinds.{is_ignored}

-- there is such a section, and it passes the test
abbrev pub section_is : (Section → Bool) → Option Section → Bool
section_is test None = false
section_is test (Some s) = test s

-- SHT_RELA and SHT_REL
abbrev pub is_rela : Section → Bool
is_rela s = nat_eq s.kind 4

abbrev pub is_rel : Section → Bool
is_rel s = nat_eq s.kind 9

-- SHF_ALLOC: the section is in memory
abbrev pub is_in_memory : Section → Bool
is_in_memory s = nat_eq (bit_and s.flags 2) 2

-- sh_info names a section that is in memory
abbrev pub is_for_memory : List ℕ → Section → Bool
is_for_memory bytes s = section_is is_in_memory (section_at bytes s.info)

-- a RELA section that counts: one for a section that is in memory. Every other one is ignored whole
abbrev pub is_applied : List ℕ → Section → Bool
is_applied bytes s = is_rela s && is_for_memory bytes s

-- S: the value of a symbol of a symbol table. A symbol is 16 bytes with its value at 4; symbol 0 has value 0
abbrev pub symbol_value : List ℕ → Option Section → ℕ → ℕ
symbol_value bytes None symbol = 0
symbol_value bytes (Some symbols) symbol = if nat_eq symbol 0 then 0 else u32_field bytes (symbols.offset + 16 * symbol + 4)

-- how many symbols a symbol table has
abbrev pub symbol_count : Option Section → ℕ
symbol_count None = 0
symbol_count (Some symbols) = symbols.size / 16

-- r_info: the symbol's number, and in the lowest byte the type
abbrev pub symbol_of : ℕ → ℕ
symbol_of info = info / 256

abbrev pub kind_of : ℕ → ℕ
kind_of info = info % 256

-- entry `number` of the RELA section of this index: 12 bytes, r_offset, r_info and r_addend
unfoldable pub entry_at : List ℕ → ℕ → Section → ℕ → Entry
entry_at bytes index table number =
    let info : ℕ = u32_field bytes (table.offset + 12 * number + 4) in
    record {
      section = index;
      number = number;
      offset = u32_field bytes (table.offset + 12 * number);
      kind = kind_of info;
      symbol = symbol_of info;
      value = symbol_value bytes (section_at bytes table.link) (symbol_of info);
      addend = u32_field bytes (table.offset + 12 * number + 8);
    }

-- an entry of zeros, where a list has none
abbrev pub no_entry : Entry
no_entry = record { section = 0; number = 0; offset = 0; kind = 0; symbol = 0; value = 0; addend = 0 }

-- T = S + A modulo 2^32
abbrev pub target_of : Entry → ℕ
target_of e = (e.value + e.addend) % 2 ^ 32

-- those among the first so many entries of a RELA section that are not ignored
unfoldable pub entries_in : List ℕ → ℕ → Section → ℕ → List Entry
entries_in bytes index table zero = []
entries_in bytes index table (suc count) =
    if is_ignored (entry_at bytes index table count).kind then entries_in bytes index table count else entries_in bytes index table count ++ entry_at bytes index table count ∷ []

-- all those of a RELA section
abbrev pub table_entries : List ℕ → ℕ → Section → List Entry
table_entries bytes index table = entries_in bytes index table (table.size / 12)

-- those of a section, where it is a RELA section that counts
abbrev pub section_entries : List ℕ → ℕ → Option Section → List Entry
section_entries bytes index None = []
section_entries bytes index (Some s) = if is_applied bytes s then table_entries bytes index s else []

-- those of the first so many sections
unfoldable pub entries_before : List ℕ → ℕ → List Entry
entries_before bytes zero = []
entries_before bytes (suc count) = entries_before bytes count ++ section_entries bytes count (section_at bytes count)

-- THE entries of a file that are not ignored, in order of section and entry
abbrev pub entries_of : List ℕ → List Entry
entries_of bytes = entries_before bytes (shnum_of bytes)

-- the section of an entry's symbols: sh_link of its RELA section
abbrev pub symbols_of : List ℕ → Entry → Option Section
symbols_of bytes e = option_and_then (λ table. section_at bytes table.link) (section_at bytes e.section)

-- the target of the first of the entries at an address that passes a test
abbrev pub first_target : (Entry → Bool) → List Entry → ℕ → Option ℕ
first_target test entries address = option_map target_of (find (λ e. test e && nat_eq e.offset address) entries)
