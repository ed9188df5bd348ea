-- What a test finds among the entries of a file it finds without those of repeats.
use Rattle.std.proofs.Common.{◌≡◌, ◌≢◌, ◌⊎◌, inl, inr, ℕ, zero, suc, ◌+◌, ◌/◌, ◌<◌, Bool, true, false, not, ◌&&◌, cond, if◌then◌else◌, List, [], ◌∷◌, ◌++◌, Option, Some, None, refl, sym, subst, ap, ◌∙◌, arith}
use Rattle.std.specs.Option.{is_some, option_or}
use Rattle.std.specs.List.{find}
use Rattle.std.proofs.lemmas.Bool.{cases_eq, and_parts}
use Rattle.std.proofs.lemmas.List.Folds.{find-append}
use Rattle.sq_num.specs.Refusals.{first_from}
use Rattle.sq_elf.specs.declared.section.Section.{Section}
use Rattle.sq_elf.specs.Headers.{shnum_of}
use Rattle.sq_elf.specs.Reading.{section_at}
use Rattle.sq_reloc.specs.declared.entry.Entry.{Entry}
use Rattle.sq_reloc.specs.Kinds.{is_ignored}
use Rattle.sq_reloc.specs.Entries.{section_is, is_applied, entry_at, entries_in, table_entries, section_entries, entries_before, entries_of}
use Rattle.sq_reloc.specs.Repeats.{has_entries_of, has_at, is_repeat, fresh_entries, fresh_before, fresh_of}
use Rattle.sq_reloc.proofs.Alike.{AreAlike, Respects, alike, IsHeld, held, same_link}

-- a place that passes
pub record IsPassing (passes : ℕ → Bool) (end : ℕ) : Type 0 where
  pub place : ℕ
  pub within : place < end
  pub is : passes place ≡ true

passing_from : (passes : ℕ → Bool) (at n : ℕ) → is_some (first_from passes at n) ≡ true → IsPassing passes (at + n)
unfolding first_from
passing_from passes at zero is = absurd (cc is)
passing_from passes at (suc n) is = by_test (λ rest. passing_from passes (at + 1) n rest) (passes at) refl is
  where
    further : IsPassing passes (at + 1 + n) → IsPassing passes (at + suc n)
    further found = record { place = found.place; within = omega (arith, found.within); is = found.is }

    by_test : (is_some (first_from passes (at + 1) n) ≡ true → IsPassing passes (at + 1 + n)) → (here : Bool) → passes at ≡ here → is_some (if here then Some at else first_from passes (at + 1) n) ≡ true → IsPassing passes (at + suc n)
    by_test later true here is = record { place = at; within = omega arith; is = here }
    by_test later false here is = further (later is)

-- of a search in two parts
no_first : (found last : Option Entry) → option_or found last ≡ None → found ≡ None
no_first None last none = refl
no_first (Some e) last none = absurd (cc none)

no_last : (found last : Option Entry) → option_or found last ≡ None → last ≡ None
no_last None last none = none
no_last (Some e) last none = absurd (cc none)

one_fails : (passes : Bool) (e : Entry) → cond passes (Some e) None ≡ None → passes ≡ false
one_fails true e none = absurd (cc none)
one_fails false e none = refl

module _ (bytes : List ℕ) (test : Entry → Bool) where
  none_in_parts : (xs ys : List Entry) → find test xs ≡ None → find test ys ≡ None → find test (xs ++ ys) ≡ None
  none_in_parts xs ys first last = find-append test xs ys ∙ rw (first) last

  first_part : (xs ys : List Entry) → find test (xs ++ ys) ≡ None → find test xs ≡ None
  first_part xs ys none = no_first (find test xs) (find test ys) (sym (find-append test xs ys) ∙ none)

  last_part : (xs ys : List Entry) → find test (xs ++ ys) ≡ None → find test ys ≡ None
  last_part xs ys none = no_last (find test xs) (find test ys) (sym (find-append test xs ys) ∙ none)

  -- where no entry of a table passes, each fails
  each_fails : (index : ℕ) (table : Section) (count place : ℕ) → find test (entries_in bytes index table count) ≡ None → place < count → is_ignored (entry_at bytes index table place).kind ≡ false → test (entry_at bytes index table place) ≡ false
  unfolding entries_in
  each_fails index table zero place none within counts = absurd (omega (arith, within))
  each_fails index table (suc count) place none within counts = by_place (λ rest below. each_fails index table count place rest below counts) (cases_eq place count)
    where
      before : (ignored : Bool) → find test (if ignored then entries_in bytes index table count else entries_in bytes index table count ++ entry_at bytes index table count ∷ []) ≡ None → find test (entries_in bytes index table count) ≡ None
      before true none = none
      before false none = first_part (entries_in bytes index table count) (entry_at bytes index table count ∷ []) none

      last : (ignored : Bool) → ignored ≡ false → find test (if ignored then entries_in bytes index table count else entries_in bytes index table count ++ entry_at bytes index table count ∷ []) ≡ None → test (entry_at bytes index table count) ≡ false
      last true is none = absurd (cc is)
      last false is none = one_fails (test (entry_at bytes index table count)) (entry_at bytes index table count) (last_part (entries_in bytes index table count) (entry_at bytes index table count ∷ []) none)

      by_place : (find test (entries_in bytes index table count) ≡ None → place < count → test (entry_at bytes index table place) ≡ false) → ((place ≡ count) ⊎ (place ≢ count)) → test (entry_at bytes index table place) ≡ false
      by_place later (inl same) =
          let Counts : ℕ → Type 0 = λ k. is_ignored (entry_at bytes index table k).kind ≡ false in
          ap (λ k. test (entry_at bytes index table k)) same ∙ last (is_ignored (entry_at bytes index table count).kind) (subst Counts same counts) none
      by_place later (inr apart) = later (before (is_ignored (entry_at bytes index table count).kind) none) (omega (arith, within, apart))

  -- where each fails, none passes
  none_passes : (index : ℕ) (table : Section) (count : ℕ) → ((place : ℕ) → place < count → is_ignored (entry_at bytes index table place).kind ≡ false → test (entry_at bytes index table place) ≡ false) → find test (entries_in bytes index table count) ≡ None
  unfolding entries_in
  none_passes index table zero fails = refl
  none_passes index table (suc count) fails = by_test (is_ignored (entry_at bytes index table count).kind) refl (none_passes index table count (λ place within. fails place (omega (arith, within))))
    where
      one_none : test (entry_at bytes index table count) ≡ false → find test (entry_at bytes index table count ∷ []) ≡ None
      one_none is = rw is refl

      by_test : (ignored : Bool) → is_ignored (entry_at bytes index table count).kind ≡ ignored → find test (entries_in bytes index table count) ≡ None → find test (if ignored then entries_in bytes index table count else entries_in bytes index table count ++ entry_at bytes index table count ∷ []) ≡ None
      by_test true is none = none
      by_test false is none = none_in_parts (entries_in bytes index table count) (entry_at bytes index table count ∷ []) none (one_none (fails count (omega arith) is))

  -- where none of the first sections has one, no table of them has
  table_none : (count index : ℕ) (table : Section) → index < count → section_at bytes index ≡ Some table → is_applied bytes table ≡ true → find test (entries_before bytes count) ≡ None → find test (table_entries bytes index table) ≡ None
  unfolding entries_before
  table_none zero index table within is counts none = absurd (omega (arith, within))
  table_none (suc count) index table within is counts none = by_place (λ below rest. table_none count index table below is counts rest) (cases_eq index count)
    where
      here : (found : Option Section) → found ≡ Some table → find test (section_entries bytes index found) ≡ None → find test (table_entries bytes index table) ≡ None
      here None is none = absurd (cc is)
      here (Some s) is none =
          let same : s ≡ table = cc is in
          let all : section_entries bytes index (Some s) ≡ table_entries bytes index table = rw (same, counts) refl in
          ap (find test) (sym all) ∙ none

      by_place : (index < count → find test (entries_before bytes count) ≡ None → find test (table_entries bytes index table) ≡ None) → ((index ≡ count) ⊎ (index ≢ count)) → find test (table_entries bytes index table) ≡ None
      by_place later (inl same) =
          let Here : ℕ → Type 0 = λ k. find test (section_entries bytes k (section_at bytes k)) ≡ None in
          here (section_at bytes index) is (subst Here (sym same) (last_part (entries_before bytes count) (section_entries bytes count (section_at bytes count)) none))
      by_place later (inr apart) = later (omega (arith, within, apart)) (first_part (entries_before bytes count) (section_entries bytes count (section_at bytes count)) none)

-- the earlier section that has the entries of a repeat
pub record IsEarlier (bytes : List ℕ) (index : ℕ) (table : Section) : Type 0 where
  pub earlier : ℕ
  pub other : Section
  pub before : earlier < index
  pub is : section_at bytes earlier ≡ Some other
  pub counts : is_applied bytes other ≡ true
  pub has : has_entries_of other table ≡ true

pub earlier_of : (bytes : List ℕ) (index : ℕ) (table : Section) → is_repeat bytes index table ≡ true → IsEarlier bytes index table
earlier_of bytes index table repeat = by_section (section_at bytes found.place) refl found.is
  where
    found : IsPassing (has_at bytes table) (0 + index)
    found = passing_from (has_at bytes table) 0 index repeat

    by_section : (at : Option Section) → section_at bytes found.place ≡ at → section_is (λ other. has_entries_of other table && is_applied bytes other) at ≡ true → IsEarlier bytes index table
    by_section None is passes = absurd (cc passes)
    by_section (Some other) is passes =
        let parts = and_parts (has_entries_of other table) (is_applied bytes other) passes in
        record { earlier = found.place; other = other; before = omega (arith, found.within); is = is; counts = parts.1; has = parts.0 }

module _ (bytes : List ℕ) (test : Entry → Bool) (respects : Respects bytes test) where
  -- an entry of a repeat fails where those of the other table do
  pub repeat_none : (index : ℕ) (table : Section) (earlier : ℕ) (other : Section) → section_at bytes index ≡ Some table → section_at bytes earlier ≡ Some other → has_entries_of other table ≡ true → find test (table_entries bytes earlier other) ≡ None → find test (table_entries bytes index table) ≡ None
  repeat_none index table earlier other is other_is has none =
      none_passes bytes test index table (table.size / 12)
      (λ number within counts.
      let hold : IsHeld other table number = held other table has number within in
      let like : AreAlike bytes (entry_at bytes index table number) (entry_at bytes earlier other hold.place) = alike bytes index number table earlier hold.place other is other_is (same_link other table has) hold.apart in
      let counts_too : is_ignored (entry_at bytes earlier other hold.place).kind ≡ false = ap is_ignored (sym like.kind) ∙ counts in
      respects (entry_at bytes index table number) (entry_at bytes earlier other hold.place) like ∙ each_fails bytes test earlier other (other.size / 12) hold.place none hold.within counts_too)

  repeat_adds_none : (index : ℕ) (table : Section) → section_at bytes index ≡ Some table → is_repeat bytes index table ≡ true → find test (entries_before bytes index) ≡ None → find test (table_entries bytes index table) ≡ None
  repeat_adds_none index table is repeat none =
      let at = earlier_of bytes index table repeat in
      repeat_none index table at.earlier at.other is at.is at.has (table_none bytes test index at.earlier at.other at.before at.is at.counts none)

  nothing_added : (found last : Option Entry) → (found ≡ None → last ≡ None) → option_or found None ≡ option_or found last
  nothing_added None last none = sym (none refl)
  nothing_added (Some e) last none = refl

  -- the section adds the same with or without its repeats
  section_same : (index : ℕ) (at : Option Section) → section_at bytes index ≡ at → option_or (find test (entries_before bytes index)) (find test (fresh_entries bytes index at)) ≡ option_or (find test (entries_before bytes index)) (find test (section_entries bytes index at))
  section_same index None is = refl
  section_same index (Some table) is = by_tests (is_applied bytes table) (is_repeat bytes index table) refl
    where
      by_tests : (counts repeat : Bool) → is_repeat bytes index table ≡ repeat
          → option_or (find test (entries_before bytes index)) (find test (if counts && not repeat then table_entries bytes index table else [])) ≡ option_or (find test (entries_before bytes index)) (find test (if counts then table_entries bytes index table else []))
      by_tests false repeat repeats = refl
      by_tests true false repeats = refl
      by_tests true true repeats = nothing_added (find test (entries_before bytes index)) (find test (table_entries bytes index table)) (repeat_adds_none index table is repeats)

  found_before : (count : ℕ) → find test (fresh_before bytes count) ≡ find test (entries_before bytes count)
  unfolding entries_before fresh_before
  found_before zero = refl
  found_before (suc count) =
      find-append test (fresh_before bytes count) (fresh_entries bytes count (section_at bytes count))
      ∙ ap (λ found. option_or found (find test (fresh_entries bytes count (section_at bytes count)))) (found_before count)
      ∙ section_same count (section_at bytes count) refl
      ∙ sym (find-append test (entries_before bytes count) (section_entries bytes count (section_at bytes count)))

  -- THE entries without repeats answer as all do
  pub fresh_found : find test (fresh_of bytes) ≡ find test (entries_of bytes)
  fresh_found = found_before (shnum_of bytes)
