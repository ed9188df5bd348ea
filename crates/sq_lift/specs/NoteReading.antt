-- The note of a file, as the code reads it. No public clause cites this module.
use Rattle.std.specs.Prelude.{ℕ, zero, suc, ◌+◌, List, [], ◌∷◌, ◌++◌, if◌then◌else◌, slice_get}
use Rattle.std.specs.Option.{option_and_then, unwrap_or}
use Rattle.sq_elf.specs.Headers.{shnum_of, section_of}
use Rattle.law_program.specs.Programs.{Word, Text}
use Rattle.law_program.specs.NoteSections.{is_note, item_run}
use Rattle.sq_lift.specs.declared.notes.NoteSection.{NoteSection}
use Rattle.sq_lift.specs.declared.notes.NoteSection.TheVariants.{Missing, At, Several}
use Rattle.sq_lift.specs.Places.{place_of}

-- the numbers of the note's sections among the first so many
abbrev pub note_numbers_before : List ℕ → ℕ → List ℕ
note_numbers_before bytes zero = []
note_numbers_before bytes (suc count) =
    note_numbers_before bytes count ++ (if is_note (section_of bytes count) then count ∷ [] else [])

-- which of them there is
abbrev pub one_of : List ℕ → NoteSection
one_of [] = Missing
one_of (number ∷ []) = At number
one_of (number ∷ other ∷ rest) = Several

abbrev pub joined : NoteSection → ℕ → NoteSection
joined Missing number = At number
joined (At before) number = Several
joined Several number = Several

abbrev pub note_section_of : List ℕ → NoteSection
note_section_of bytes = one_of (note_numbers_before bytes (shnum_of bytes))

-- how many words from each on read as items
abbrev pub item_runs : Text → ℕ → List Word → List ℕ
item_runs t at [] = []
item_runs t at (w ∷ words) = item_run t at (w ∷ words) ∷ item_runs t (at + 4) words

-- the same by addresses, where there is a word
abbrev pub run_at : ℕ → List ℕ → ℕ → ℕ
run_at lo runs x = unwrap_or (option_and_then (slice_get runs) (place_of lo x)) 0
