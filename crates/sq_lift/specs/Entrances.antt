-- What leads to each word of text, as the code gathers it, and noted procedures by that. No public clause cites this
-- module.
use Rattle.std.specs.Prelude.{◌≡◌, ℕ, zero, suc, ◌+◌, ◌-◌, Bool, true, false, not, ◌==◌, ◌&&◌, ◌||◌, nat_le, List, [], ◌∷◌, Option, Some, None, map, slice_get, if◌then◌else◌}
use Rattle.std.specs.Option.{option_and_then, option_map, unwrap_or}
use Rattle.sq_isa.specs.declared.instructions.Insn.{Insn}
use Rattle.sq_isa.specs.declared.instructions.Insn.TheVariants.{Jal}
use Rattle.sq_reloc.specs.declared.mark.Mark.{Mark}
use Rattle.law_program.specs.Programs.{Word, Text, Note, Program, word_at, insn_in, insn_at, target_of}
use Rattle.law_program.specs.Reached.{jump_target, half_target, insn_goes_on}
use Rattle.law_program.specs.Notes.{is_in_order, is_procedure}
use Rattle.law_program.specs.Faults.{insn_is}
use Rattle.sq_lift.specs.declared.entrances.Entrance.{Entrance}
use Rattle.sq_lift.specs.declared.entrances.Entrance.TheVariants.{Closed, Calls, Open}
use Rattle.sq_lift.specs.Places.{place_of}
use Rattle.sq_lift.specs.Search.{is_among}

-- what leads to a word in two ways
abbrev pub merged : Entrance → Entrance → Entrance
merged Closed b = b
merged (Calls r) Closed = Calls r
merged (Calls r) (Calls s) = if r == s then Calls r else Open
merged (Calls r) Open = Open
merged Open b = Open

abbrev pub entrance_if : Bool → Entrance → Entrance
entrance_if b entrance = if b then entrance else Closed

-- a `jal` with its link, or a branch
abbrev pub jump_entrance : Insn → Entrance
jump_entrance (Jal rd offset) = Calls rd
jump_entrance insn = Open

-- how an instruction with this mark leads to x, but to its next word
abbrev pub insn_entrance : ℕ → ℕ → Mark → Insn → Entrance
insn_entrance x at mark insn =
    merged (entrance_if (is_among (half_target mark) x) Open) (entrance_if (is_among (jump_target at insn) x) (jump_entrance insn))

abbrev pub marked_entrance : ℕ → ℕ → Mark → Option Insn → Entrance
marked_entrance x at mark None = Closed
marked_entrance x at mark (Some insn) = insn_entrance x at mark insn

-- how the reached ones of these words do, which stand from `at` on
abbrev pub words_entrance : (ℕ → Bool) → ℕ → ℕ → List Word → Entrance
words_entrance is x at [] = Closed
words_entrance is x at (w ∷ words) =
    merged (entrance_if (is at) (marked_entrance x at w.mark (insn_in w))) (words_entrance is x (at + 4) words)

-- and the entry, the code words and all reached words
abbrev pub entrance_of : (ℕ → Bool) → Program → ℕ → Entrance
entrance_of is p x =
    merged (entrance_if (is_among (p.entry ∷ []) x) Open)
    (merged (entrance_if (is_among (map target_of p.code_words) x) Open) (words_entrance is x p.text.lo p.text.words))

-- an entrance for each of the words from the address `lo` on
pub record Entrances : Type 0 where
  pub lo : ℕ
  pub entrances : List Entrance

unfoldable pub entrance_at : Entrances → ℕ → Option Entrance
entrance_at e x = option_and_then (slice_get e.entrances) (place_of e.lo x)

abbrev pub entrance_in : Entrances → ℕ → Entrance
entrance_in e x = unwrap_or (entrance_at e x) Closed

-- one more way to the word at a place
abbrev pub merged_at : List Entrance → ℕ → Entrance → List Entrance
merged_at [] k entrance = []
merged_at (old ∷ rest) zero entrance = merged old entrance ∷ rest
merged_at (old ∷ rest) (suc k) entrance = old ∷ merged_at rest k entrance

abbrev pub merged_if : List Entrance → Option ℕ → Entrance → List Entrance
merged_if entrances None entrance = entrances
merged_if entrances (Some k) entrance = merged_at entrances k entrance

-- and to the word at an address
abbrev pub with_entrance : Entrances → ℕ → Entrance → Entrances
with_entrance e x entrance = record e { entrances = merged_if e.entrances (place_of e.lo x) entrance }

-- to each word x of these leads f x more than before
pub record Adds (f : ℕ → Entrance) (old new : Entrances) : Type 0 where
  pub at : (x : ℕ) → entrance_at new x ≡ option_map (λ before. merged before (f x)) (entrance_at old x)

-- these are the entrances of the program's words
abbrev pub AreEntrances : (ℕ → Bool) → Program → Entrances → Type 0
AreEntrances is p e = (x : ℕ) → entrance_at e x ≡ option_map (λ w. entrance_of is p x) (word_at p.text x)

-- Noted procedures

-- something leads there but `jal`s with this link
abbrev pub is_entered_but_by : ℕ → Entrance → Bool
is_entered_but_by link Closed = false
is_entered_but_by link (Calls r) = not (r == link)
is_entered_but_by link Open = true

-- something leads there
abbrev pub is_open : Entrance → Bool
is_open Closed = false
is_open (Calls r) = true
is_open Open = true

-- to one of n words from `at` on
abbrev pub some_open : (ℕ → Entrance) → ℕ → ℕ → Bool
some_open entrance at zero = false
some_open entrance at (suc n) = is_open (entrance at) || some_open entrance (at + 4) n

-- the word before x is reached and goes on to it
abbrev pub is_fallen_into : (ℕ → Bool) → Text → ℕ → Bool
is_fallen_into is t x = nat_le 4 x && (is (x - 4) && insn_is insn_goes_on (insn_at t (x - 4)))

-- a procedure is entered but by its calls: at its first word, at a later one, or from the word before it
abbrev pub is_entered_by : (ℕ → Bool) → (ℕ → Entrance) → Text → Note → Bool
is_entered_by is entrance t note =
    is_entered_but_by note.link (entrance note.address)
    || (some_open entrance (note.address + 4) note.length || is_fallen_into is t note.address)

abbrev pub is_good_by : (ℕ → Bool) → (ℕ → Entrance) → Text → Option ℕ → Note → Bool
is_good_by is entrance t before note =
    is_in_order t before note
    && (not (is note.address) || is_procedure t note && not (is_entered_by is entrance t note))
