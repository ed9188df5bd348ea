-- A flag for each word of text.
use Rattle.std.specs.Prelude.{ℕ, Bool, true, false, not, List, Option, slice_get, slice_set}
use Rattle.std.specs.Option.{option_and_then, is_some, unwrap_or}
use Rattle.law_program.specs.Programs.{Text, Note}
use Rattle.law_program.specs.Reached.{Decides}
use Rattle.sq_reloc.specs.declared.mark.CodeWord.{CodeWord}
use Rattle.sq_lift.specs.Places.{place_of}

-- the flags of the words from the address `lo` on
pub record Flags : Type 0 where
  pub lo : ℕ
  pub flags : List Bool

-- the flag of the word at an address
unfoldable pub flag_at : Flags → ℕ → Option Bool
flag_at f x = option_and_then (slice_get f.flags) (place_of f.lo x)

-- there is a word at the address
abbrev pub has_word : Flags → ℕ → Bool
has_word f x = is_some (flag_at f x)

abbrev pub is_flagged : Flags → ℕ → Bool
is_flagged f x = unwrap_or (flag_at f x) false

-- there is a word at the address that has no flag
abbrev pub is_unflagged : Flags → ℕ → Bool
is_unflagged f x = not (unwrap_or (flag_at f x) true)

-- the same flags, and one for the word at the address
abbrev pub with_flag : Flags → ℕ → Flags
with_flag f x = record f { flags = slice_set f.flags (unwrap_or (place_of f.lo x) 0) true }

-- the test holds of exactly the reached words of each program with this text, entry and code words
abbrev pub DecidesFor : Text → ℕ → List CodeWord → (ℕ → Bool) → Type 0
DecidesFor t entry words is =
    (notes : List Note) → Decides (record { text = t; entry = entry; code_words = words; notes = notes }) is
