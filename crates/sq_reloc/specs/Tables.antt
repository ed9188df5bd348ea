-- What is asked of relocation sections, and of the symbols of entries.
use Rattle.std.specs.Prelude.{ℕ, ◌+◌, ◌%◌, Bool, not, ◌&&◌, ◌||◌, nat_eq, nat_lt, nat_le, List}
use Rattle.std.specs.Option.{is_some}
use Rattle.std.specs.List.{list_any}
use Rattle.sq_num.specs.Refusals.{first_from}
use Rattle.sq_elf.specs.declared.segment.Segment.{Segment}
use Rattle.sq_elf.specs.declared.section.Section.{Section}
use Rattle.sq_elf.specs.Headers.{shnum_of}
use Rattle.sq_elf.specs.Ranges.{leaves}
use Rattle.sq_elf.specs.Memory.{segments_of}
use Rattle.sq_elf.specs.Reading.{section_at}
use Rattle.sq_reloc.specs.declared.entry.Entry.{Entry}
use Rattle.sq_reloc.specs.Kinds.{width_of}
use Rattle.sq_reloc.specs.Entries.{section_is, is_rela, is_rel, is_for_memory, is_applied, symbol_count, symbols_of, table_entries}

-- the address is that of a file byte of the segment
abbrev pub has_file_byte : ℕ → Segment → Bool
has_file_byte address s = nat_le s.address address && nat_lt address (s.address + s.filesz)

-- the address is that of a file byte of one PT_LOAD
abbrev pub is_file_byte : List ℕ → ℕ → Bool
is_file_byte bytes address = list_any (has_file_byte address) (segments_of bytes)

-- the entry touches a byte that is no file byte of a PT_LOAD. It is asked byte by byte: two segments may hold them
abbrev pub is_stray : List ℕ → Entry → Bool
is_stray bytes e = is_some (first_from (λ place. not (is_file_byte bytes (e.offset + place))) 0 (width_of e.kind))

-- SHT_SYMTAB, of whole symbols of 16 bytes, at least one, and inside the file
abbrev pub is_symbol_table : List ℕ → Section → Bool
is_symbol_table bytes s =
    nat_eq s.kind 2 && nat_eq s.entsize 16 && nat_le 16 s.size && nat_eq (s.size % 16) 0 && not (leaves bytes s.offset s.size)

-- not of whole entries of 12 bytes, or not inside the file
abbrev pub is_malformed : List ℕ → Section → Bool
is_malformed bytes s = not (nat_eq s.entsize 12) || not (nat_eq (s.size % 12) 0) || leaves bytes s.offset s.size

-- sh_link is not the number of a symbol table
abbrev pub lacks_symbols : List ℕ → Section → Bool
lacks_symbols bytes s = not (section_is (is_symbol_table bytes) (section_at bytes s.link))

-- a RELA section for a section that does not exist; one that counts and is malformed, lacks its symbols, or has an
-- entry that touches what is no file byte; a REL section for what is in memory
abbrev pub is_bad_table : List ℕ → ℕ → Section → Bool
is_bad_table bytes index s =
    (is_rela s && nat_le (shnum_of bytes) s.info)
    || (is_applied bytes s && (is_malformed bytes s || lacks_symbols bytes s || list_any (is_stray bytes) (table_entries bytes index s)))
    || (is_rel s && is_for_memory bytes s)

abbrev pub is_rela_at : List ℕ → ℕ → Bool
is_rela_at bytes index = section_is is_rela (section_at bytes index)

abbrev pub is_bad_table_at : List ℕ → ℕ → Bool
is_bad_table_at bytes index = section_is (is_bad_table bytes index) (section_at bytes index)

-- the entry's symbol table does not have its symbol
abbrev pub is_bad_symbol : List ℕ → Entry → Bool
is_bad_symbol bytes e = nat_le (symbol_count (symbols_of bytes e)) e.symbol
