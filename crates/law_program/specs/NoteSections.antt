-- The note of a file: a section that lists procedures. Its format is this project's own.
use Rattle.std.specs.Prelude.{ℕ, zero, suc, ◌+◌, ◌*◌, Bool, false, true, ◌==◌, ◌&&◌, nat_le, List, [], ◌∷◌, ◌++◌, length, Option, Some, None, if◌then◌else◌}
use Rattle.sq_elf.specs.declared.section.Section.{Section}
use Rattle.sq_elf.specs.Fields.{u32_field}
use Rattle.sq_elf.specs.Headers.{shnum_of}
use Rattle.sq_elf.specs.Ranges.{bytes_at}
use Rattle.sq_elf.specs.Reading.{section_at}
use Rattle.law_program.specs.Programs.{Word, Text, Note}
use Rattle.law_program.specs.Readings.{Reading, IsItem, IsTerm, Links, reading_of}

-- the type of the section
abbrev pub is_note : Section → Bool
is_note s = s.kind == 0x80515a31

abbrev pub note_if : Option Section → List Section
note_if None = []
note_if (Some s) = if is_note s then s ∷ [] else []

-- those among the first so many sections
abbrev pub note_sections_before : List ℕ → ℕ → List Section
note_sections_before bytes zero = []
note_sections_before bytes (suc count) = note_sections_before bytes count ++ note_if (section_at bytes count)

abbrev pub note_sections : List ℕ → List Section
note_sections bytes = note_sections_before bytes (shnum_of bytes)

-- Version 1 has entries of an address and a link: the body is what reads as items

abbrev pub is_item : Option Reading → Bool
is_item None = false
is_item (Some (IsItem item)) = true
is_item (Some (IsTerm term)) = false
is_item (Some (Links link to)) = false

-- how many of these words, which stand from `at` on, read as items before one that doesn't
abbrev pub item_run : Text → ℕ → List Word → ℕ
item_run t at [] = 0
item_run t at (w ∷ words) = if is_item (reading_of t at w) then item_run t (at + 4) words + 1 else 0

-- the same from address x on
abbrev pub item_run_from : Text → ℕ → ℕ → List Word → ℕ
item_run_from t x at [] = 0
item_run_from t x at (w ∷ words) = if x == at then item_run t at (w ∷ words) else item_run_from t x (at + 4) words

-- the body has no items where the address is no word of text
abbrev pub short_note : Text → List ℕ → ℕ → Note
short_note t note at = record {
  address = u32_field note at;
  link = u32_field note (at + 4);
  length = item_run_from t (u32_field note at) t.lo t.words;
}

-- so many entries, the first of them at an offset of the note
abbrev pub short_notes : Text → List ℕ → ℕ → ℕ → List Note
short_notes t note at zero = []
short_notes t note at (suc count) = short_note t note at ∷ short_notes t note (at + 8) count

-- Version 2 has entries of an address, a link and a number of items

abbrev pub full_note : List ℕ → ℕ → Note
full_note note at =
    record { address = u32_field note at; link = u32_field note (at + 4); length = u32_field note (at + 8) }

abbrev pub full_notes : List ℕ → ℕ → ℕ → List Note
full_notes note at zero = []
full_notes note at (suc count) = full_note note at ∷ full_notes note (at + 12) count

-- "SQZ1" and "SQZ2"
abbrev pub magic_1 : ℕ
magic_1 = 0x315a5153

abbrev pub magic_2 : ℕ
magic_2 = 0x325a5153

-- a note is its version, the number of its entries, and these, with nothing behind
abbrev pub is_note_of : ℕ → ℕ → List ℕ → Bool
is_note_of magic entry_size note =
    nat_le 8 (length note) && u32_field note 0 == magic && length note == 8 + entry_size * u32_field note 4

abbrev pub notes_in : Text → List ℕ → Option (List Note)
notes_in t note =
    if is_note_of magic_1 8 note then Some (short_notes t note 8 (u32_field note 4))
    else if is_note_of magic_2 12 note then Some (full_notes note 8 (u32_field note 4))
    else None

abbrev pub notes_in_bytes : Text → Option (List ℕ) → Option (List Note)
notes_in_bytes t None = None
notes_in_bytes t (Some note) = notes_in t note

abbrev pub notes_in_sections : List ℕ → Text → List Section → Option (List Note)
notes_in_sections bytes t [] = Some []
notes_in_sections bytes t (s ∷ []) = notes_in_bytes t (bytes_at bytes s.offset s.size)
notes_in_sections bytes t (s ∷ other ∷ rest) = None

-- THE notes of a file: none where there are two such sections, or the one leaves the file or isn't a note
abbrev pub notes_of : List ℕ → Text → Option (List Note)
notes_of bytes t = notes_in_sections bytes t (note_sections bytes)
