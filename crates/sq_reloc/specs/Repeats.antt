-- Tables whose entries an earlier section has too. What is asked of entries doesn't change where these are left out, so
-- they are read once.
use Rattle.std.specs.Prelude.{ℕ, zero, suc, ◌+◌, ◌-◌, ◌/◌, ◌%◌, Bool, not, ◌&&◌, ◌||◌, nat_eq, nat_le, if◌then◌else◌, List, [], ◌++◌, Option, Some, None}
use Rattle.std.specs.Option.{is_some}
use Rattle.std.specs.List.{list_any}
use Rattle.sq_num.specs.Refusals.{first_from}
use Rattle.sq_elf.specs.declared.section.Section.{Section}
use Rattle.sq_elf.specs.Headers.{shnum_of}
use Rattle.sq_elf.specs.Reading.{section_at}
use Rattle.sq_reloc.specs.declared.entry.Entry.{Entry}
use Rattle.sq_reloc.specs.Entries.{section_is, is_rela, is_rel, is_for_memory, is_applied, table_entries}
use Rattle.sq_reloc.specs.Tables.{is_stray, is_malformed, lacks_symbols}

-- each entry of the table is one of the other: the two have the same symbols, and stand whole entries apart
abbrev pub has_entries_of : Section → Section → Bool
has_entries_of other table =
    nat_eq other.link table.link && nat_le other.offset table.offset && nat_eq ((table.offset - other.offset) % 12) 0
    && nat_le ((table.offset - other.offset) / 12 + table.size / 12) (other.size / 12)

-- the section of this index counts and has the entries of the table
abbrev pub has_at : List ℕ → Section → ℕ → Bool
has_at bytes table index = section_is (λ other. has_entries_of other table && is_applied bytes other) (section_at bytes index)

-- an earlier section has the entries of the one of this index
abbrev pub is_repeat : List ℕ → ℕ → Section → Bool
is_repeat bytes index table = is_some (first_from (has_at bytes table) 0 index)

-- a bad relocation section, where the entries of a repeat are not looked at
abbrev pub is_bad_once : List ℕ → ℕ → Section → Bool
is_bad_once bytes index s =
    (is_rela s && nat_le (shnum_of bytes) s.info)
    || (is_applied bytes s && (is_malformed bytes s || lacks_symbols bytes s || (not (is_repeat bytes index s) && list_any (is_stray bytes) (table_entries bytes index s))))
    || (is_rel s && is_for_memory bytes s)

abbrev pub is_bad_once_at : List ℕ → ℕ → Bool
is_bad_once_at bytes index = section_is (is_bad_once bytes index) (section_at bytes index)

-- a section that counts and is no repeat
abbrev pub is_fresh : List ℕ → ℕ → Section → Bool
is_fresh bytes index table = is_applied bytes table && not (is_repeat bytes index table)

-- the entries of a section, where it is fresh
abbrev pub fresh_entries : List ℕ → ℕ → Option Section → List Entry
fresh_entries bytes index None = []
fresh_entries bytes index (Some s) = if is_fresh bytes index s then table_entries bytes index s else []

-- those of the first so many sections
unfoldable pub fresh_before : List ℕ → ℕ → List Entry
fresh_before bytes zero = []
fresh_before bytes (suc count) = fresh_before bytes count ++ fresh_entries bytes count (section_at bytes count)

-- the entries of a file, without those of repeats
abbrev pub fresh_of : List ℕ → List Entry
fresh_of bytes = fresh_before bytes (shnum_of bytes)
