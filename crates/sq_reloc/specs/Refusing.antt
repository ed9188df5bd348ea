-- THE table of refusals by relocations, in the order that counts.
use Rattle.std.specs.Prelude.{ℕ, Bool, not, if◌then◌else◌, List, [], ◌∷◌, length, slice_index_or, Option}
use Rattle.std.specs.Option.{option_map, is_some}
use Rattle.sq_num.specs.Refusals.{Row, first_from, first_refusal}
use Rattle.sq_num.specs.declared.refusal.Refusal.{Refusal}
use Rattle.sq_num.specs.declared.refusal.Refusal.TheVariants.{NoRelocs, BadRelocTable, BadSymbol, UnsupportedReloc, RelocDisagrees}
use Rattle.sq_elf.specs.Headers.{shnum_of}
use Rattle.sq_elf.specs.Refusing.{single}
use Rattle.sq_reloc.specs.declared.entry.Entry.{Entry}
use Rattle.sq_reloc.specs.Kinds.{is_data_kind}
use Rattle.sq_reloc.specs.Entries.{no_entry, entries_of}
use Rattle.sq_reloc.specs.Tables.{is_rela_at, is_bad_table_at, is_bad_symbol}
use Rattle.sq_reloc.specs.Outside.{is_refused_outside}

-- 14: no section of type RELA
abbrev pub no_relocs : List ℕ → Row
no_relocs bytes = single (not (is_some (first_from (is_rela_at bytes) 0 (shnum_of bytes)))) NoRelocs

-- 15: a bad relocation section
abbrev pub bad_tables : List ℕ → Row
bad_tables bytes = record { places = shnum_of bytes; fails = is_bad_table_at bytes; refusal = BadRelocTable }

abbrev pub nth_entry : List Entry → ℕ → Entry
nth_entry entries place = slice_index_or entries place no_entry

-- a row whose places are the entries, in order of section and entry
abbrev pub entry_row : List Entry → (Entry → Bool) → (Entry → Refusal) → Row
entry_row entries fails refusal =
    record { places = length entries; fails = λ place. fails (nth_entry entries place); refusal = λ place. refusal (nth_entry entries place) }

-- the first of the entries that fails
abbrev pub first_entry : List Entry → (Entry → Bool) → Option Entry
first_entry entries fails = option_map (nth_entry entries) (first_from (λ place. fails (nth_entry entries place)) 0 (length entries))

-- 16: an entry whose symbol table does not have its symbol
abbrev pub symbol_refusal : Entry → Refusal
symbol_refusal e = BadSymbol e.section e.number

abbrev pub bad_symbols : List ℕ → Row
bad_symbols bytes = entry_row (entries_of bytes) (is_bad_symbol bytes) symbol_refusal

-- 17 and 18 outside text, as one row: an entry of another type, or a code entry with which the word in the file disagrees
abbrev pub outside_refusal : Entry → Refusal
outside_refusal e = if is_data_kind e.kind then RelocDisagrees e.offset e.kind else UnsupportedReloc e.offset e.kind

abbrev pub refused_outside : List ℕ → Row
refused_outside bytes = entry_row (entries_of bytes) (is_refused_outside bytes) outside_refusal

-- of the sections
abbrev pub table_rows : List ℕ → List Row
table_rows bytes = no_relocs bytes ∷ bad_tables bytes ∷ []

-- of the entries
abbrev pub entry_rows : List ℕ → List Row
entry_rows bytes = bad_symbols bytes ∷ refused_outside bytes ∷ []

-- the whole table: 14, 15, 16, then 17 and 18 outside text
abbrev pub reloc_rows : List ℕ → List Row
reloc_rows bytes = no_relocs bytes ∷ bad_tables bytes ∷ bad_symbols bytes ∷ refused_outside bytes ∷ []

-- THE refusal of a file by this table, or none
unfoldable pub reloc_refusal_of : List ℕ → Option Refusal
reloc_refusal_of bytes = first_refusal (reloc_rows bytes)
