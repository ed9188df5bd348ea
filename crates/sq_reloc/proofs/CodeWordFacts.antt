-- What a code word of an accepted file is.
use Rattle.std.proofs.Common.{◌≡◌, ℕ, ◌%◌, ◌<◌, Bool, true, false, not, ◌&&◌, ◌||◌, nat_eq, if◌then◌else◌, List, [], ◌∷◌, length, Option, Some, None, refl, sym, subst, ap, ◌∙◌, arith}
use Rattle.std.specs.Option.{option_map}
use Rattle.std.specs.List.{find}
use Rattle.std.proofs.lemmas.Bool.Decides.{nat_tests}
use Rattle.std.proofs.lemmas.Bool.{not-true, not-false, and_parts, or_parts}
use Rattle.sq_num.specs.Refusals.{first_refusal}
use Rattle.sq_elf.specs.declared.text.Text.{Text}
use Rattle.sq_elf.specs.Text.{text_of, is_in_text, is_text_word}
use Rattle.sq_elf.specs.Reading.{word_of}
use Rattle.sq_elf.proofs.Passing.{row_passes, behind_row}
use Rattle.sq_elf.proofs.TextFacts.{second_false}
use Rattle.sq_reloc.specs.declared.entry.Entry.{Entry}
use Rattle.sq_reloc.specs.Kinds.{is_data_kind}
use Rattle.sq_reloc.specs.Entries.{no_entry, target_of, entries_of}
use Rattle.sq_reloc.specs.Outside.{is_outside, is_code_entry, is_beaten, code_target, code_word_at, is_word, disagrees_outside, is_refused_outside}
use Rattle.sq_reloc.specs.CodeWords.{IsCodeWord}
use Rattle.sq_reloc.specs.Refusing.{nth_entry, no_relocs, bad_tables, bad_symbols, refused_outside, reloc_refusal_of}
use Rattle.sq_reloc.proofs.Found.{IsFoundAt, found_at}

equal_of : (a b : ℕ) → nat_eq a b ≡ true → a ≡ b
equal_of a b is = grind (arith, nat_tests)

word_is : (found : Option ℕ) (value : ℕ) → is_word found value ≡ true → found ≡ Some value
word_is None value is = absurd (cc is)
word_is (Some word) value is = ap Some (equal_of word value is)

-- what a code entry is
record IsCodeEntry (text : Text) (e : Entry) : Type 0 where
  outside : is_in_text text e.offset ≡ false
  aligned : e.offset % 4 ≡ 0
  to_text : is_text_word text (target_of e) ≡ true

entry_facts : (text : Text) (e : Entry) → is_code_entry text e ≡ true → IsCodeEntry text e
entry_facts text e is =
    let whole = and_parts (is_outside text e && nat_eq e.kind 1 && nat_eq (e.offset % 4) 0) (is_text_word text (target_of e)) is in
    let placed = and_parts (is_outside text e && nat_eq e.kind 1) (nat_eq (e.offset % 4) 0) whole.0 in
    let typed = and_parts (is_outside text e) (nat_eq e.kind 1) placed.0 in
    record { outside = not-true (is_in_text text e.offset) typed.0; aligned = equal_of (e.offset % 4) 0 placed.1; to_text = whole.1 }

module _ (bytes : List ℕ) (accepted : reloc_refusal_of bytes ≡ None) where
  rows_pass : first_refusal (no_relocs bytes ∷ bad_tables bytes ∷ bad_symbols bytes ∷ refused_outside bytes ∷ []) ≡ None
  unfolding reloc_refusal_of
  rows_pass = accepted

  -- no entry is refused outside text
  passes : (place : ℕ) → place < length (entries_of bytes) → is_refused_outside bytes (nth_entry (entries_of bytes) place) ≡ false
  passes =
      row_passes (refused_outside bytes) []
      (behind_row (bad_symbols bytes) (refused_outside bytes ∷ [])
      (behind_row (bad_tables bytes) (bad_symbols bytes ∷ refused_outside bytes ∷ [])
      (behind_row (no_relocs bytes) (bad_tables bytes ∷ bad_symbols bytes ∷ refused_outside bytes ∷ []) rows_pass)))

  -- so the word at an unbeaten code entry is its target
  word_agrees : (e : Entry) → is_refused_outside bytes e ≡ false → is_code_entry (text_of bytes) e ≡ true → is_beaten bytes e.offset ≡ false → word_of bytes e.offset ≡ Some (target_of e)
  word_agrees e fine code unbeaten =
      let outside : is_outside (text_of bytes) e ≡ true = ap not ((entry_facts (text_of bytes) e code).outside) in
      let inner = second_false (is_outside (text_of bytes) e) (not (is_data_kind e.kind) || disagrees_outside bytes e) fine outside in
      let agrees = (or_parts (not (is_data_kind e.kind)) (disagrees_outside bytes e) inner).1 in
      let kept : (is_code_entry (text_of bytes) e && not (is_beaten bytes e.offset)) ≡ true = rw (code, unbeaten) refl in
      let last = second_false (is_code_entry (text_of bytes) e && not (is_beaten bytes e.offset)) (not (is_word (word_of bytes e.offset) (target_of e))) agrees kept in
      word_is (word_of bytes e.offset) (target_of e) (not-false (is_word (word_of bytes e.offset) (target_of e)) last)

  module _ (address target : ℕ) where
    abbrev at_address : Entry → Bool
    at_address e = is_code_entry (text_of bytes) e && nat_eq e.offset address

    by_entry : is_beaten bytes address ≡ false → (e : Entry) → find at_address (entries_of bytes) ≡ Some e → target_of e ≡ target → IsCodeWord bytes address target
    by_entry unbeaten e is same =
        let found : IsFoundAt at_address (entries_of bytes) no_entry e = found_at at_address no_entry e (entries_of bytes) is in
        let tests = and_parts (is_code_entry (text_of bytes) e) (nat_eq e.offset address) found.passes in
        let at : e.offset ≡ address = equal_of e.offset address tests.1 in
        let facts : IsCodeEntry (text_of bytes) e = entry_facts (text_of bytes) e tests.0 in
        let Fine : Entry → Type 0 = λ x. is_refused_outside bytes x ≡ false in
        let fine : is_refused_outside bytes e ≡ false = subst Fine found.is (passes found.place found.within) in
        let Beaten : ℕ → Type 0 = λ a. is_beaten bytes a ≡ false in
        let unbeaten_there : is_beaten bytes e.offset ≡ false = subst Beaten (sym at) unbeaten in
        let Outside : ℕ → Type 0 = λ a. is_in_text (text_of bytes) a ≡ false in
        let ToText : ℕ → Type 0 = λ t. is_text_word (text_of bytes) t ≡ true in
        record {
          outside = subst Outside at facts.outside;
          aligned = ap (λ a. a % 4) (sym at) ∙ facts.aligned;
          unbeaten = unbeaten;
          to_text = subst ToText same facts.to_text;
          in_file = ap (word_of bytes) (sym at) ∙ word_agrees e fine tests.0 unbeaten_there ∙ ap Some same;
        }

    by_found : is_beaten bytes address ≡ false → (found : Option Entry) → find at_address (entries_of bytes) ≡ found → option_map target_of found ≡ Some target → IsCodeWord bytes address target
    by_found unbeaten None is some = absurd (cc some)
    by_found unbeaten (Some e) is some = by_entry unbeaten e is (cc some)

    by_beaten : (beaten : Bool) → is_beaten bytes address ≡ beaten → (if beaten then None else code_target bytes address) ≡ Some target → IsCodeWord bytes address target
    by_beaten true is some = absurd (cc some)
    by_beaten false is some = by_found is (find at_address (entries_of bytes)) refl some

    pub is_code_word : code_word_at bytes address ≡ Some target → IsCodeWord bytes address target
    is_code_word some = by_beaten (is_beaten bytes address) refl some
