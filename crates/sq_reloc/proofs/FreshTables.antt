-- The first bad relocation section is found without a second look at the entries of repeats.
use Rattle.std.proofs.Common.{◌≡◌, ◌≢◌, ◌⊎◌, inl, inr, ℕ, zero, suc, ◌+◌, ◌<◌, Bool, true, false, not, ◌&&◌, ◌||◌, nat_le, if◌then◌else◌, List, Option, Some, None, refl, sym, ap, ◌∙◌, arith}
use Rattle.std.specs.Option.{is_some}
use Rattle.std.specs.List.{find, list_any}
use Rattle.std.proofs.lemmas.Bool.{cases_eq, or_parts}
use Rattle.sq_num.specs.Refusals.{first_from}
use Rattle.sq_elf.specs.declared.section.Section.{Section}
use Rattle.sq_elf.specs.Headers.{shnum_of}
use Rattle.sq_elf.specs.Reading.{section_at}
use Rattle.sq_elf.proofs.TextFacts.{second_false}
use Rattle.sq_reloc.specs.declared.entry.Entry.{Entry}
use Rattle.sq_reloc.specs.Entries.{section_is, is_rela, is_rel, is_for_memory, is_applied, table_entries}
use Rattle.sq_reloc.specs.Repeats.{is_repeat, is_bad_once, is_bad_once_at}
use Rattle.sq_reloc.specs.Tables.{is_stray, is_malformed, lacks_symbols, is_bad_table, is_bad_table_at}
use Rattle.sq_reloc.proofs.Fresh.{IsEarlier, earlier_of, repeat_none}
use Rattle.sq_reloc.proofs.FreshReads.{any_found, stray_respects}

-- two tests that agree at each place before which none passes have one first place
module _ (some other : ℕ → Bool) (agree : (place : ℕ) → ((before : ℕ) → before < place → some before ≡ false) → some place ≡ other place) where
  first_same : (at n : ℕ) → ((before : ℕ) → before < at → some before ≡ false) → first_from other at n ≡ first_from some at n
  unfolding first_from
  first_same at zero none = refl
  first_same at (suc n) none = by_test (λ rest. first_same (at + 1) n rest) (some at) (other at) refl (agree at none)
    where
      further : some at ≡ false → (before : ℕ) → before < at + 1 → some before ≡ false
      further fails before below = by_place (cases_eq before at)
        where
          by_place : ((before ≡ at) ⊎ (before ≢ at)) → some before ≡ false
          by_place (inl same) = ap some same ∙ fails
          by_place (inr apart) = none before (omega (arith, below, apart))

      by_test : (((before : ℕ) → before < at + 1 → some before ≡ false) → first_from other (at + 1) n ≡ first_from some (at + 1) n) → (here there : Bool) → some at ≡ here → here ≡ there → (if there then Some at else first_from other (at + 1) n) ≡ (if here then Some at else first_from some (at + 1) n)
      by_test later true true is same = refl
      by_test later true false is same = absurd (cc same)
      by_test later false true is same = absurd (cc same)
      by_test later false false is same = later (further is)

none_found : (found : Option Entry) → is_some found ≡ false → found ≡ None
none_found None is = refl
none_found (Some e) is = absurd (cc is)

module _ (bytes : List ℕ) where
  abbrev strays : ℕ → Section → Bool
  strays index s = list_any (is_stray bytes) (table_entries bytes index s)

  -- a section that counts and is not bad has no stray entry
  fine_strays : (index : ℕ) (s : Section) → is_applied bytes s ≡ true → is_bad_table bytes index s ≡ false → strays index s ≡ false
  fine_strays index s counts fine =
      let whole = or_parts ((is_rela s && nat_le (shnum_of bytes) s.info) || (is_applied bytes s && (is_malformed bytes s || lacks_symbols bytes s || strays index s))) (is_rel s && is_for_memory bytes s) fine in
      let parts = or_parts (is_rela s && nat_le (shnum_of bytes) s.info) (is_applied bytes s && (is_malformed bytes s || lacks_symbols bytes s || strays index s)) whole.0 in
      let formed = second_false (is_applied bytes s) (is_malformed bytes s || lacks_symbols bytes s || strays index s) parts.1 counts in
      (or_parts (is_malformed bytes s || lacks_symbols bytes s) (strays index s) formed).1

  no_stray : (index : ℕ) (s : Section) → strays index s ≡ false → find (is_stray bytes) (table_entries bytes index s) ≡ None
  no_stray index s none = none_found (find (is_stray bytes) (table_entries bytes index s)) (sym (any_found (is_stray bytes) (table_entries bytes index s)) ∙ none)

  fine_at : (index : ℕ) (s : Section) (at : Option Section) → at ≡ Some s → section_is (is_bad_table bytes index) at ≡ false → is_bad_table bytes index s ≡ false
  fine_at index s None is fine = absurd (cc is)
  fine_at index s (Some t) is fine = let same : t ≡ s = cc is in ap (is_bad_table bytes index) (sym same) ∙ fine

  repeat_strays : (index : ℕ) (s : Section) → section_at bytes index ≡ Some s → ((before : ℕ) → before < index → is_bad_table_at bytes before ≡ false) → is_repeat bytes index s ≡ true → strays index s ≡ false
  repeat_strays index s is none repeat =
      let at : IsEarlier bytes index s = earlier_of bytes index s repeat in
      let fine : is_bad_table bytes at.earlier at.other ≡ false = fine_at at.earlier at.other (section_at bytes at.earlier) at.is (none at.earlier at.before) in
      let nothing : find (is_stray bytes) (table_entries bytes at.earlier at.other) ≡ None = no_stray at.earlier at.other (fine_strays at.earlier at.other at.counts fine) in
      any_found (is_stray bytes) (table_entries bytes index s) ∙ ap is_some (repeat_none bytes (is_stray bytes) (stray_respects bytes) index s at.earlier at.other is at.is at.has nothing)

  once_by : (repeat : Bool) (stray : Bool) → (repeat ≡ true → stray ≡ false) → stray ≡ (not repeat && stray)
  once_by true stray none = none refl
  once_by false stray none = refl

  bad_same : (index : ℕ) → ((before : ℕ) → before < index → is_bad_table_at bytes before ≡ false) → is_bad_table_at bytes index ≡ is_bad_once_at bytes index
  bad_same index none = by_section (section_at bytes index) refl
    where
      by_section : (at : Option Section) → section_at bytes index ≡ at → section_is (is_bad_table bytes index) at ≡ section_is (is_bad_once bytes index) at
      by_section None is = refl
      by_section (Some s) is =
          ap (λ stray. (is_rela s && nat_le (shnum_of bytes) s.info) || (is_applied bytes s && (is_malformed bytes s || lacks_symbols bytes s || stray)) || (is_rel s && is_for_memory bytes s))
          (once_by (is_repeat bytes index s) (strays index s) (repeat_strays index s is none))

  pub first_bad_same : first_from (is_bad_once_at bytes) 0 (shnum_of bytes) ≡ first_from (is_bad_table_at bytes) 0 (shnum_of bytes)
  first_bad_same = first_same (is_bad_table_at bytes) (is_bad_once_at bytes) bad_same 0 (shnum_of bytes) (λ before below. absurd (omega (arith, below)))
