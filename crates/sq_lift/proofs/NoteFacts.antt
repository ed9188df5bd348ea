-- The notes of a file by the section in which they stand.
use Rattle.std.proofs.Common.{◌≡◌, ◌==◌, ◌*◌, inl, inr, ℕ, zero, suc, ◌+◌, ◌<◌, ◌≤◌, Bool, true, false, nat_lt, List, [], ◌∷◌, ◌++◌, length, map, Option, Some, None, refl, sym, ap, ◌∙◌, arith, if◌then◌else◌, slice_get}
use Rattle.std.specs.List.{AllByRecursion}
use Rattle.std.specs.Option.{option_and_then, option_map, unwrap_or}
use Rattle.std.proofs.lemmas.Bool.{cases_Bool}
use Rattle.std.proofs.lemmas.Bool.Decides.{nat_tests}
use Rattle.std.proofs.lemmas.List.{map-append}
use Rattle.sq_elf.specs.declared.section.Section.{Section}
use Rattle.sq_elf.specs.Fields.{u32_field}
use Rattle.sq_elf.specs.Headers.{shnum_of, section_of}
use Rattle.sq_elf.specs.Reading.{section_at, contents_in, contents_of}
use Rattle.law_program.specs.Programs.{Word, Text, Note}
use Rattle.law_program.specs.NoteSections.{is_note, note_if, note_sections_before, notes_in_bytes, notes_in_sections, notes_of, item_run, item_run_from, short_note, short_notes}
use Rattle.sq_lift.specs.declared.notes.NoteSection.{NoteSection}
use Rattle.sq_lift.specs.declared.notes.NoteSection.TheVariants.{Missing, At, Several}
use Rattle.sq_lift.specs.NoteReading.{note_numbers_before, one_of, note_section_of, item_runs, run_at}
use Rattle.sq_lift.specs.Places.{place_of}
use Rattle.sq_lift.proofs.Placed.{same_place, next_place}

abbrev pub by_section : List ℕ → Text → NoteSection → Option (List Note)
by_section bytes t Missing = Some []
by_section bytes t (At number) = notes_in_bytes t (contents_of bytes number)
by_section bytes t Several = None

there : (bytes : List ℕ) (number : ℕ) → number < shnum_of bytes → section_at bytes number ≡ Some (section_of bytes number)
there bytes number below = let is : nat_lt number (shnum_of bytes) ≡ true = grind (arith, nat_tests) in rw is refl

note_or_none : (bytes : List ℕ) (number : ℕ) (b : Bool) → (if b then section_of bytes number ∷ [] else []) ≡ map (section_of bytes) (if b then number ∷ [] else [])
note_or_none bytes number true = refl
note_or_none bytes number false = refl

sections_are : (bytes : List ℕ) (n : ℕ) → n ≤ shnum_of bytes → note_sections_before bytes n ≡ map (section_of bytes) (note_numbers_before bytes n)
sections_are bytes zero within = refl
sections_are bytes (suc n) within =
    ap (λ (s : Option Section). note_sections_before bytes n ++ note_if s) (there bytes n (omega arith))
    ∙ ap (λ (ss : List Section). ss ++ note_if (Some (section_of bytes n))) (sections_are bytes n (omega arith))
    ∙ ap (λ (ss : List Section). map (section_of bytes) (note_numbers_before bytes n) ++ ss) (note_or_none bytes n (is_note (section_of bytes n)))
    ∙ sym (map-append (section_of bytes) (note_numbers_before bytes n) (if is_note (section_of bytes n) then n ∷ [] else []))

all_append : (P : ℕ → Type 0) (xs ys : List ℕ) → AllByRecursion P xs → AllByRecursion P ys → AllByRecursion P (xs ++ ys)
all_append P [] ys all more = more
all_append P (x ∷ xs) ys all more = (all.0, all_append P xs ys all.1 more)

one_below : (n m : ℕ) (b : Bool) → n < m → AllByRecursion (λ i. i < m) (if b then n ∷ [] else [])
one_below n m true below = (below, tt)
one_below n m false below = tt

all_below : (bytes : List ℕ) (m n : ℕ) → n ≤ m → AllByRecursion (λ i. i < m) (note_numbers_before bytes n)
all_below bytes m zero within = tt
all_below bytes m (suc n) within =
    all_append (λ i. i < m) (note_numbers_before bytes n) (if is_note (section_of bytes n) then n ∷ [] else []) (all_below bytes m n (omega arith)) (one_below n m (is_note (section_of bytes n)) (omega arith))

by_numbers : (bytes : List ℕ) (t : Text) (numbers : List ℕ) → AllByRecursion (λ i. i < shnum_of bytes) numbers → notes_in_sections bytes t (map (section_of bytes) numbers) ≡ by_section bytes t (one_of numbers)
by_numbers bytes t [] below = refl
by_numbers bytes t (number ∷ []) below = ap (λ s. notes_in_bytes t (contents_in bytes s)) (sym (there bytes number below.0))
by_numbers bytes t (number ∷ other ∷ rest) below = refl

pub notes_by_section : (bytes : List ℕ) (t : Text) → notes_of bytes t ≡ by_section bytes t (note_section_of bytes)
notes_by_section bytes t =
    ap (notes_in_sections bytes t) (sections_are bytes (shnum_of bytes) (omega arith))
    ∙ by_numbers bytes t (note_numbers_before bytes (shnum_of bytes)) (all_below bytes (shnum_of bytes) (shnum_of bytes) (omega arith))

-- runs of items by places
shifted : (run : ℕ) (runs : List ℕ) (p : Option ℕ) → unwrap_or (option_and_then (slice_get (run ∷ runs)) (option_map suc p)) 0 ≡ unwrap_or (option_and_then (slice_get runs) p) 0
shifted run runs None = refl
shifted run runs (Some k) = refl

no_run : (p : Option ℕ) → unwrap_or (option_and_then (slice_get {X = ℕ} []) p) 0 ≡ 0
no_run None = refl
no_run (Some k) = refl

pub run_from_place : (t : Text) (x at : ℕ) (words : List Word) → item_run_from t x at words ≡ run_at at (item_runs t at words) x
run_from_place t x at [] = sym (no_run (place_of at x))
run_from_place t x at (w ∷ words) =
    elim (cases_Bool (x == at)) [
      | inl here ↦ rw (here, same_place at x here) refl
      | inr apart ↦
          rw (apart, next_place at x apart (place_of (at + 4) x) refl, shifted (item_run t at (w ∷ words)) (item_runs t (at + 4) words) (place_of (at + 4) x)) (run_from_place t x (at + 4) words)
    ]

pub short_more : (t : Text) (note : List ℕ) (at n : ℕ) → short_notes t note at (n + 1) ≡ short_notes t note at n ++ short_note t note (at + 8 * n) ∷ []
short_more t note at n = let e : n + 1 ≡ suc n = omega arith in rw e (more at n)
  where
    more : (at n : ℕ) → short_notes t note at (suc n) ≡ short_notes t note at n ++ short_note t note (at + 8 * n) ∷ []
    more at zero = let e : at + 8 * 0 ≡ at = omega arith in rw e refl
    more at (suc n) =
        let e : at + 8 * suc n ≡ at + 8 + 8 * n = omega arith in
        rw e (ap (λ ns. short_note t note at ∷ ns) (more (at + 8) n))

pub short_count : (t : Text) (note : List ℕ) (at n : ℕ) → length (short_notes t note at n) ≡ n
short_count t note at zero = refl
short_count t note at (suc n) = ap suc (short_count t note (at + 8) n)

-- a short note by the runs of items
pub short_note_is : (t : Text) (note : List ℕ) (at lo : ℕ) (runs : List ℕ) → lo ≡ t.lo → runs ≡ item_runs t t.lo t.words → record { address = u32_field note at; link = u32_field note (at + 4); length = run_at lo runs (u32_field note at) } ≡ short_note t note at
short_note_is t note at lo runs same are =
    let runs_are : run_at lo runs (u32_field note at) ≡ item_run_from t (u32_field note at) t.lo t.words =
    (λ i. run_at (same i) (are i) (u32_field note at)) ∙ sym (run_from_place t (u32_field note at) t.lo t.words)
    in
    λ i. record { address = u32_field note at; link = u32_field note (at + 4); length = runs_are i }
