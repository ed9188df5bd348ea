-- The symbol table of a file and its symbols (System V gABI, Elf32_Sym).
use Rattle.std.specs.Prelude.{ℕ, ◌+◌, ◌*◌, ◌%◌, Bool, false, not, ◌&&◌, nat_eq, if◌then◌else◌, List, Option, Some, None, take, drop, option_map}
use Rattle.std.specs.Option.{option_and_then}
use Rattle.std.specs.List.{position}
use Rattle.sq_num.specs.Refusals.{first_from}
use Rattle.sq_elf.specs.declared.section.Section.{Section}
use Rattle.sq_elf.specs.Fields.{u32_field}
use Rattle.sq_elf.specs.Headers.{shnum_of}
use Rattle.sq_elf.specs.Ranges.{leaves}
use Rattle.sq_elf.specs.Reading.{section_at}
use Rattle.sq_names.specs.declared.symbol.Symbol.{Symbol}

-- there is such a section, and it is of type SHT_SYMTAB
abbrev pub is_symbol_table : Option Section → Bool
is_symbol_table None = false
is_symbol_table (Some section) = nat_eq section.kind 2

abbrev pub is_symbol_table_at : List ℕ → ℕ → Bool
is_symbol_table_at bytes index = is_symbol_table (section_at bytes index)

-- THE symbol table of a file: its first section of that type
abbrev pub symbol_table_of : List ℕ → Option Section
symbol_table_of bytes = option_and_then (section_at bytes) (first_from (is_symbol_table_at bytes) 0 (shnum_of bytes))

-- its symbols have 16 bytes each, and its bytes are inside the file
abbrev pub is_readable : List ℕ → Section → Bool
is_readable bytes table = nat_eq table.entsize 16 && not (leaves bytes table.offset table.size)

-- symbol `number` of a table: st_name at 0, st_value at 4, st_info in the byte at 12. Symbol 0, STN_UNDEF, has value 0
unfoldable pub symbol_at : List ℕ → Section → ℕ → Symbol
symbol_at bytes table number =
    let at : ℕ = table.offset + 16 * number in
    record {
      name = u32_field bytes at;
      value = if nat_eq number 0 then 0 else u32_field bytes (at + 4);
      info = u32_field bytes (at + 12) % 256;
    }

abbrev pub is_zero : ℕ → Bool
is_zero byte = nat_eq byte 0

-- the bytes before the first zero; none where there is no zero
abbrev pub ended : List ℕ → Option (List ℕ)
ended bytes = option_map (λ count. take count bytes) (position is_zero bytes)

-- the string of a string table that begins at a place; none where it doesn't end there
abbrev pub string_at : List ℕ → ℕ → Option (List ℕ)
string_at strings at = ended (drop at strings)
