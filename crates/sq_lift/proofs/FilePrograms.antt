-- A file has one program, and one refusal by its text.
use Rattle.std.proofs.Common.{◌≡◌, ℕ, ◌+◌, Bool, true, false, List, [], ◌∷◌, Some, None, refl, sym, ap, ◌∙◌, subst, if◌then◌else◌}
use Rattle.std.specs.Option.{unwrap_or, option_or}
use Rattle.sq_num.specs.declared.refusal.Refusal.{Refusal}
use Rattle.sq_elf.specs.Headers.{entry_of}
use Rattle.sq_elf.specs.Refusing.{file_refusal_of}
use Rattle.sq_reloc.specs.Refusing.{reloc_refusal_of}
use Rattle.sq_reloc.specs.declared.mark.CodeWord.{CodeWord}
use Rattle.sq_reloc.specs.CodeWords.{AreCodeWords}
use Rattle.law_program.specs.Programs.{Word, Text, Program}
use Rattle.law_program.specs.Reached.{Decides}
use Rattle.law_program.specs.NoteSections.{notes_of}
use Rattle.law_program.specs.Faults.{fault_of, fault_from, text_refusal}
use Rattle.law_program.specs.FilePrograms.{text_of, IsProgramOf, IsReadAs}
use Rattle.sq_lift.specs.Flags.{Flags, is_flagged, DecidesFor}
use Rattle.sq_lift.specs.Refused.{IsTextRefusal, IsReadText}
use Rattle.sq_lift.proofs.CodeWordLists.{one_list}

-- the program with these code words
abbrev pub program_with : List ℕ → List CodeWord → Program
program_with bytes words =
    record { text = text_of bytes; entry = entry_of bytes; code_words = words; notes = unwrap_or (notes_of bytes (text_of bytes)) [] }

pub is_program : (bytes : List ℕ) (words : List CodeWord) → AreCodeWords bytes words → IsProgramOf bytes (program_with bytes words)
is_program bytes words are = record { text = refl; entry = refl; code_words = are; notes = refl }

pub one_program : (bytes : List ℕ) (words : List CodeWord) (p : Program) → AreCodeWords bytes words → IsProgramOf bytes p → p ≡ program_with bytes words
one_program bytes words p are is =
    let codes : p.code_words ≡ words = one_list bytes p.code_words words is.code_words are in
    λ i. record { text = is.text i; entry = is.entry i; code_words = codes i; notes = is.notes i }

-- two tests that decide alike
pub same_test : (p : Program) (is too : ℕ → Bool) → Decides p is → Decides p too → (x : ℕ) → is x ≡ too x
same_test p is too first second x = by_cases (is x) (too x) refl refl
  where
    by_cases : (a b : Bool) → is x ≡ a → too x ≡ b → a ≡ b
    by_cases true true e f = refl
    by_cases false false e f = refl
    by_cases true false e f = let all = second.all x (first.only x e) in (cc)
    by_cases false true e f = let all = first.all x (second.only x f) in (cc)

same_faults : (is too : ℕ → Bool) → ((x : ℕ) → is x ≡ too x) → (t : Text) (at : ℕ) (words : List Word) → fault_from is t at words ≡ fault_from too t at words
same_faults is too same t at [] = refl
same_faults is too same t at (w ∷ words) =
    rw (same at) (ap (option_or (if too at then fault_of t at w else None)) (same_faults is too same t (at + 4) words))

-- what was found of a file: its text, its code words and the flags of its reached words
pub record IsFound (bytes : List ℕ) (t : Text) (words : List CodeWord) (f : Flags) : Type 0 where
  pub file : file_refusal_of bytes ≡ None
  pub relocs : reloc_refusal_of bytes ≡ None
  pub text : t ≡ text_of bytes
  pub code_words : AreCodeWords bytes words
  pub decides : DecidesFor t (entry_of bytes) words (is_flagged f)

pub found_from : (bytes relocs : List ℕ) (t : Text) (words : List CodeWord) (f : Flags) (start : ℕ) → relocs ≡ bytes → file_refusal_of bytes ≡ None → reloc_refusal_of relocs ≡ None → t ≡ text_of bytes → AreCodeWords relocs words → start ≡ entry_of bytes → DecidesFor t start words (is_flagged f) → IsFound bytes t words f
found_from bytes relocs t words f start same file fine text are at decided =
    let Accepts : List ℕ → Type 0 = λ read. reloc_refusal_of read ≡ None in
    let Lists : List ℕ → Type 0 = λ read. AreCodeWords read words in
    let From : ℕ → Type 0 = λ x. DecidesFor t x words (is_flagged f) in
    record { file = file; relocs = subst Accepts same fine; text = text; code_words = subst Lists same are; decides = subst From at decided }

module _ (bytes : List ℕ) (t : Text) (words : List CodeWord) (f : Flags) (found : IsFound bytes t words f) where
  decides : Decides (program_with bytes words) (is_flagged f)
  decides = let By : Text → Type 0 = λ text. DecidesFor text (entry_of bytes) words (is_flagged f) in
      subst By found.text found.decides (unwrap_or (notes_of bytes (text_of bytes)) [])

  read : IsReadAs bytes (is_flagged f) (program_with bytes words)
  read = record { file = found.file; relocs = found.relocs; program = is_program bytes words found.code_words; reached = decides }

  refusal_is : (p : Program) → IsProgramOf bytes p → text_refusal (is_flagged f) p ≡ fault_from (is_flagged f) t t.lo t.words
  refusal_is p is = ap (λ (text : Text). fault_from (is_flagged f) text text.lo text.words) (is.text ∙ sym found.text)

  pub refuses : (refusal : Refusal) → fault_from (is_flagged f) t t.lo t.words ≡ Some refusal → IsTextRefusal bytes refusal
  refuses refusal fault = record {
    is = is_flagged f;
    program = program_with bytes words;
    read = read;
    refuses = refusal_is (program_with bytes words) (is_program bytes words found.code_words) ∙ fault;
  }

  decides_all : (p : Program) → IsProgramOf bytes p → Decides p (is_flagged f)
  decides_all p is = let By : Program → Type 0 = λ q. Decides q (is_flagged f) in subst By (sym (one_program bytes words p found.code_words is)) decides

  pub exactly : (refusal : Refusal) → IsTextRefusal bytes refusal → fault_from (is_flagged f) t t.lo t.words ≡ Some refusal
  exactly refusal r =
      sym (refusal_is r.program r.read.program)
      ∙ same_faults (is_flagged f) r.is (same_test r.program (is_flagged f) r.is (decides_all r.program r.read.program) r.read.reached) r.program.text r.program.text.lo r.program.text.words
      ∙ r.refuses

  pub accepted : fault_from (is_flagged f) t t.lo t.words ≡ None → IsReadText bytes t f
  accepted fine = record {
    text = found.text;
    reached = decides_all;
    fine = λ p is. refusal_is p is ∙ fine;
  }
