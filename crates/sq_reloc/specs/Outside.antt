-- Entries outside text: code words and stale bytes. An entry is in text where its first byte is.
use Rattle.std.specs.Prelude.{ℕ, ◌+◌, ◌-◌, ◌%◌, Bool, false, not, ◌&&◌, ◌||◌, nat_eq, List, Option, Some, None, if◌then◌else◌}
use Rattle.std.specs.Option.{is_some}
use Rattle.std.specs.List.{list_any}
use Rattle.sq_elf.specs.declared.text.Text.{Text}
use Rattle.sq_elf.specs.Text.{text_of, is_in_text, is_text_word}
use Rattle.sq_elf.specs.Reading.{word_of}
use Rattle.sq_reloc.specs.declared.entry.Entry.{Entry}
use Rattle.sq_reloc.specs.Kinds.{is_data_kind, touches}
use Rattle.sq_reloc.specs.Entries.{target_of, first_target, entries_of}

-- the entry stands outside text
abbrev pub is_outside : Text → Entry → Bool
is_outside text e = not (is_in_text text e.offset)

-- an entry of type R_RISCV_32 outside text whose offset is a multiple of 4 and whose target is a word of text
abbrev pub is_code_entry : Text → Entry → Bool
is_code_entry text e = is_outside text e && nat_eq e.kind 1 && nat_eq (e.offset % 4) 0 && is_text_word text (target_of e)

-- any other entry that is accepted outside text and has its target in text
abbrev pub makes_stale : Text → Entry → Bool
makes_stale text e = is_outside text e && is_data_kind e.kind && is_in_text text (target_of e) && not (is_code_entry text e)

-- one of the entries makes the byte stale
abbrev pub is_stale_by : Text → List Entry → ℕ → Bool
is_stale_by text entries address = list_any (λ e. makes_stale text e && touches e address) entries

-- a byte outside text that an entry makes stale
abbrev pub is_touched : List ℕ → ℕ → Bool
is_touched bytes address = not (is_in_text (text_of bytes) address) && is_stale_by (text_of bytes) (entries_of bytes) address

-- the target of the first code entry at the address
abbrev pub code_target : List ℕ → ℕ → Option ℕ
code_target bytes address = first_target (is_code_entry (text_of bytes)) (entries_of bytes) address

-- one of the four bytes from the address on is made stale
abbrev pub is_beaten : List ℕ → ℕ → Bool
is_beaten bytes address = is_touched bytes address || is_touched bytes (address + 1) || is_touched bytes (address + 2) || is_touched bytes (address + 3)

-- THE code word at an address: what the word there is to be, or none. Where a byte of it is stale, stale wins
abbrev pub code_word_at : List ℕ → ℕ → Option ℕ
code_word_at bytes address = if is_beaten bytes address then None else code_target bytes address

-- the multiple of 4 at or before an address
abbrev pub word_start : ℕ → ℕ
word_start address = address - address % 4

-- STALE: an entry makes the byte stale, or it is one of the four bytes of a code entry that is beaten so
abbrev pub is_stale : List ℕ → ℕ → Bool
is_stale bytes address =
    is_touched bytes address || (is_some (code_target bytes (word_start address)) && is_beaten bytes (word_start address))

-- there is a word, and it is this one
abbrev pub is_word : Option ℕ → ℕ → Bool
is_word None value = false
is_word (Some word) value = nat_eq word value

-- a code entry that is not beaten, where the word in the file is not its target
abbrev pub disagrees_outside : List ℕ → Entry → Bool
disagrees_outside bytes e =
    is_code_entry (text_of bytes) e && not (is_beaten bytes e.offset) && not (is_word (word_of bytes e.offset) (target_of e))

-- an entry outside text that is refused: by its type, or by the word in the file
abbrev pub is_refused_outside : List ℕ → Entry → Bool
is_refused_outside bytes e = is_outside (text_of bytes) e && (not (is_data_kind e.kind) || disagrees_outside bytes e)
