-- A file has one refusal by its text and its note.
use Rattle.std.proofs.Common.{Bool, List, None, Option, Some, [], ap, arith, false, if◌then◌else◌, inl, inr, nat_lt, refl, subst, sym, true, ℕ, ◌&&◌, ◌+◌, ◌<◌, ◌∙◌, ◌∷◌, ◌≡◌, ◌⊎◌}
use Rattle.std.specs.List.{AllByRecursion}
use Rattle.std.proofs.lemmas.Bool.{and_parts}
use Rattle.std.proofs.lemmas.Bool.Decides.{nat_tests}
use Rattle.std.specs.Option.{unwrap_or, option_or, option_map}
use Rattle.sq_num.specs.declared.refusal.Refusal.{Refusal}
use Rattle.sq_num.specs.declared.refusal.Refusal.TheVariants.{BadNote}
use Rattle.sq_num.specs.declared.refusal.Denied.{Denied}
use Rattle.sq_num.specs.declared.refusal.Denied.TheVariants.{Refused, Memory}
use Rattle.sq_elf.specs.Headers.{entry_of}
use Rattle.sq_elf.specs.Refusing.{file_refusal_of}
use Rattle.sq_reloc.specs.Refusing.{reloc_refusal_of}
use Rattle.sq_reloc.specs.declared.mark.CodeWord.{CodeWord}
use Rattle.sq_reloc.specs.CodeWords.{AreCodeWords}
use Rattle.law_program.specs.Programs.{Text, Note, Program, is_word}
use Rattle.law_program.specs.Reached.{Decides}
use Rattle.law_program.specs.Notes.{is_above, is_real_register, is_in_order, is_good_note, bad_note_from, bad_note}
use Rattle.law_program.specs.NoteSections.{notes_of}
use Rattle.law_program.specs.FilePrograms.{text_of, note_refusal, early_refusal, IsReadAs}
use Rattle.sq_lift.specs.Flags.{Flags, is_flagged}
use Rattle.sq_lift.specs.Refused.{IsTextRefusal, IsReadText, IsEarlyRefusal, IsReadNoted}
use Rattle.sq_lift.proofs.FilePrograms.{program_with, is_program, one_program, same_test}

pub early_from_text : (bytes : List ℕ) (refusal : Refusal) → IsTextRefusal bytes refusal → IsEarlyRefusal bytes refusal
early_from_text bytes refusal r = record {
  is = r.is;
  program = r.program;
  read = r.read;
  refuses = ap (λ o. option_or o (note_refusal r.is r.program (notes_of bytes r.program.text))) r.refuses;
}

same_some : (r s : Refusal) → Some r ≡ Some s → r ≡ s
same_some r s e = cc

pub one_early : (bytes : List ℕ) (r s : Refusal) → IsEarlyRefusal bytes r → IsEarlyRefusal bytes s → r ≡ s
one_early bytes r s a b = same_some r s (sym a.refuses ∙ (λ i. early_refusal bytes (λ x. tests x i) (programs i)) ∙ b.refuses)
  where
    programs : a.program ≡ b.program
    programs =
        one_program bytes a.program.code_words a.program a.read.program.code_words a.read.program
        ∙ sym (one_program bytes a.program.code_words b.program a.read.program.code_words b.read.program)

    tests : (x : ℕ) → a.is x ≡ b.is x
    tests = same_test a.program a.is b.is a.read.reached (subst (λ p. Decides p b.is) (sym programs) b.read.reached)

-- an answer of the text alone, where the file is refused early
pub text_answer : (bytes : List ℕ) (d : Denied) → ((r : Refusal) → d ≡ Refused r → IsTextRefusal bytes r) → (r : Refusal) → IsEarlyRefusal bytes r → (d ≡ Refused r) ⊎ (d ≡ Memory)
text_answer bytes (Refused s) h r early = inl (ap Refused (one_early bytes s r (early_from_text bytes s (h s refl)) early))
text_answer bytes Memory h r early = inr refl

-- a file whose text is read, with its code words
pub record IsFoundText (bytes : List ℕ) (t : Text) (words : List CodeWord) (f : Flags) : Type 0 where
  pub read : IsReadText bytes t f
  pub file : file_refusal_of bytes ≡ None
  pub relocs : reloc_refusal_of bytes ≡ None
  pub code_words : AreCodeWords bytes words

pub found_text : (bytes other : List ℕ) (t : Text) (words : List CodeWord) (f : Flags) → other ≡ bytes → IsReadText bytes t f → file_refusal_of bytes ≡ None → reloc_refusal_of other ≡ None → AreCodeWords other words → IsFoundText bytes t words f
found_text bytes other t words f same read file fine are =
    let Accepts : List ℕ → Type 0 = λ bytes. reloc_refusal_of bytes ≡ None in
    let Lists : List ℕ → Type 0 = λ bytes. AreCodeWords bytes words in
    record { read = read; file = file; relocs = subst Accepts same fine; code_words = subst Lists same are }

module _ (bytes : List ℕ) (t : Text) (words : List CodeWord) (f : Flags) (here : IsFoundText bytes t words f) where
  found : IsReadText bytes t f
  found = here.read

  are : AreCodeWords bytes words
  are = here.code_words

  abbrev p : Program
  p = program_with bytes words

  read_as : IsReadAs bytes (is_flagged f) p
  read_as = record { file = here.file; relocs = here.relocs; program = is_program bytes words are; reached = found.reached p (is_program bytes words are) }

  early_is : early_refusal bytes (is_flagged f) p ≡ note_refusal (is_flagged f) p (notes_of bytes (text_of bytes))
  early_is = ap (λ o. option_or o (note_refusal (is_flagged f) p (notes_of bytes (text_of bytes)))) (found.fine p (is_program bytes words are))

  pub unread_note : notes_of bytes t ≡ None → IsEarlyRefusal bytes (BadNote 0)
  unread_note none = record {
    is = is_flagged f;
    program = p;
    read = read_as;
    refuses = early_is ∙ ap (note_refusal (is_flagged f) p) (ap (notes_of bytes) (sym found.text) ∙ none);
  }

  -- the program as the code names its parts
  abbrev seen_as : List Note → ℕ → Program
  seen_as notes entry = record { text = t; entry = entry; code_words = words; notes = notes }

  seen_is : (notes : List Note) (entry : ℕ) → notes_of bytes t ≡ Some notes → entry ≡ entry_of bytes → seen_as notes entry ≡ p
  seen_is notes entry some start =
      let all : notes ≡ unwrap_or (notes_of bytes (text_of bytes)) [] = sym (ap (λ (o : Option (List Note)). unwrap_or o []) (ap (notes_of bytes) (sym found.text) ∙ some)) in
      λ i. record { text = found.text i; entry = start i; code_words = words; notes = all i }

  note_refused : (notes : List Note) → notes_of bytes t ≡ Some notes → early_refusal bytes (is_flagged f) p ≡ note_refusal (is_flagged f) p (Some notes)
  note_refused notes some = early_is ∙ ap (note_refusal (is_flagged f) p) (ap (notes_of bytes) (sym found.text) ∙ some)

  pub bad_entry : (notes : List Note) (entry number : ℕ) → notes_of bytes t ≡ Some notes → entry ≡ entry_of bytes → bad_note (is_flagged f) (seen_as notes entry) ≡ Some number → IsEarlyRefusal bytes (BadNote number)
  bad_entry notes entry number some start bad = record {
    is = is_flagged f;
    program = p;
    read = read_as;
    refuses =
        note_refused notes some
        ∙ ap (λ (o : Option ℕ). option_map BadNote o) (ap (bad_note (is_flagged f)) (sym (seen_is notes entry some start)) ∙ bad);
  }

  pub noted : (notes : List Note) (entry : ℕ) → notes_of bytes t ≡ Some notes → entry ≡ entry_of bytes → bad_note (is_flagged f) (seen_as notes entry) ≡ None → IsReadNoted bytes t f notes
  noted notes entry some start good = record {
    text = found.text;
    notes = ap (notes_of bytes) (sym found.text) ∙ some;
    reached = found.reached;
    fine = λ q is. subst (λ r. early_refusal bytes (is_flagged f) r ≡ None) (sym (one_program bytes words q are is)) (note_refused notes some ∙ ap (λ (o : Option ℕ). option_map BadNote o) (ap (bad_note (is_flagged f)) (sym (seen_is notes entry some start)) ∙ good));
  }

  -- where nothing refuses it, nothing else does
  pub none_early : (notes : List Note) → IsReadNoted bytes t f notes → (refusal : Refusal) → IsEarlyRefusal bytes refusal → Some refusal ≡ None
  none_early notes r refusal early =
      sym early.refuses ∙ (λ i. early_refusal bytes (λ x. tests x i) early.program) ∙ r.fine early.program early.read.program
    where
      tests : (x : ℕ) → early.is x ≡ is_flagged f x
      tests = same_test early.program early.is (is_flagged f) early.read.reached (r.reached early.program early.read.program)

-- the links of good notes are registers
pub links_small : (is : ℕ → Bool) (p : Program) (before : Option ℕ) (number : ℕ) (notes : List Note) → bad_note_from is p before number notes ≡ None → AllByRecursion (λ n. n.link < 32) notes
links_small is p before number [] e = tt
links_small is p before number (n ∷ notes) e = by (is_good_note is p before n) refl e (links_small is p (Some n.address) (number + 1) notes)
  where
    below : nat_lt n.link 32 ≡ true → n.link < 32
    below e = grind (arith, nat_tests)

    small : is_good_note is p before n ≡ true → n.link < 32
    small good =
        let order = and_parts (is_in_order p.text before n) _ good in
        let link = and_parts (is_word p.text n.address && is_above before n.address) (is_real_register n.link) order.0 in
        below (and_parts (nat_lt 0 n.link) (nat_lt n.link 32) link.1).1

    by : (good : Bool) → is_good_note is p before n ≡ good → (if good then bad_note_from is p (Some n.address) (number + 1) notes else Some number) ≡ None → (bad_note_from is p (Some n.address) (number + 1) notes ≡ None → AllByRecursion (λ n. n.link < 32) notes) → AllByRecursion (λ n. n.link < 32) (n ∷ notes)
    by true good e rest = (small good, rest e)
    by false good e rest = absurd (cc)
