-- A file that has no refusal can't fail to be accepted.
use Rattle.std.proofs.Common.{◌≡◌, ℕ, zero, suc, ◌+◌, ◌*◌, ◌<◌, ◌≤◌, Bool, true, false, ◌==◌, ◌||◌, List, length, Option, Some, None, slice_get, refl, sym, ◌∙◌, subst, arith}
use Rattle.std.proofs.lemmas.Bool.{eqb-true, eqb-false}
use Rattle.std.proofs.lemmas.Option.{slice_get_within}
use Rattle.sq_num.specs.declared.refusal.Refusal.{Refusal}
use Rattle.sq_elf.specs.Refusing.{file_refusal_of}
use Rattle.sq_reloc.specs.Refusing.{reloc_refusal_of}
use Rattle.law_program.specs.Programs.{Note, Program, word_at, IsWord, end_of}
use Rattle.law_program.specs.Reached.{Decides, IsReached}
use Rattle.law_program.specs.Reached.IsReached.{entry, code_word, walk}
use Rattle.law_program.specs.FilePrograms.{NoteDies, IsReadAs, early_refusal, IsRefusalOf}
use Rattle.law_program.specs.FilePrograms.IsLiftRefusal.{early, alive}
use Rattle.law_program.specs.FilePrograms.IsRefusalOf.{by_file, by_relocs, by_lift}
use Rattle.sq_lift.proofs.FilePrograms.{program_with, is_program}
use Rattle.law_lifting.proofs.TextWords.{some_is, stood}
use Rattle.sq_top.specs.Accepting.{NotRefusedIsAccepted}
use Rattle.sq_top.proofs.CodeWordsBelow.{code_words, are_code_words}

none_of : (o : Option Refusal) → ((r : Refusal) → o ≡ Some r → ⊥) → o ≡ None
none_of None never = refl
none_of (Some r) never = absurd (never r refl)

-- A TEST OF REACHED WORDS

-- the test is right, and below n it misses nothing
record IsRightBelow (P : ℕ → Type 0) (n : ℕ) (is : ℕ → Bool) : Type 0 where
  only : (x : ℕ) → is x ≡ true → P x
  all : (x : ℕ) → x < n → P x → is x ≡ true

with_one : (P : ℕ → Type 0) (n : ℕ) (is : ℕ → Bool) → IsRightBelow P n is → P n → IsRightBelow P (suc n) (λ x. is x || x == n)
with_one P n is below here = record { only = λ x e. only x (is x) refl e; all = λ x less holds. all x (x == n) refl less holds }
  where
    only : (x : ℕ) (was : Bool) → is x ≡ was → (is x || x == n) ≡ true → P x
    only x true e h = below.only x e
    only x false e h = let at : (x == n) ≡ true = rw e at h in subst P (sym (eqb-true x n at)) here

    either : (b : Bool) → (b || true) ≡ true
    either true = refl
    either false = refl

    first : (b c : Bool) → b ≡ true → (b || c) ≡ true
    first b c e = rw e refl

    all : (x : ℕ) (at : Bool) → (x == n) ≡ at → x < suc n → P x → (is x || x == n) ≡ true
    all x true e less holds = rw e (either (is x))
    all x false e less holds = let apart : x ≡ n → ⊥ = eqb-false x n e in first (is x) (x == n) (below.all x (before x n less apart) holds)
      where
        before : (x n : ℕ) → x < suc n → (x ≡ n → ⊥) → x < n
        before x n less apart = omega arith

without_one : (P : ℕ → Type 0) (n : ℕ) (is : ℕ → Bool) → IsRightBelow P n is → (P n → ⊥) → IsRightBelow P (suc n) is
without_one P n is below never = record { only = below.only; all = λ x less holds. all x (x == n) refl less holds }
  where
    before : (x n : ℕ) → x < suc n → (x ≡ n → ⊥) → x < n
    before x n less apart = omega arith

    all : (x : ℕ) (at : Bool) → (x == n) ≡ at → x < suc n → P x → is x ≡ true
    all x true e less holds = absurd (never (subst P (eqb-true x n e) holds))
    all x false e less holds = below.all x (before x n less (eqb-false x n e)) holds

-- that there is one can't be refuted
some_test : (P : ℕ → Type 0) (n : ℕ) → ¬ ¬ ((is : ℕ → Bool) × IsRightBelow P n is)
some_test P zero never = never (λ x. false, record { only = λ x e. absurd (cc); all = λ x less holds. absurd (omega arith) })
some_test P (suc n) never =
    some_test P n
    (λ found.
    let without : P n → ⊥ = λ here. never (λ x. found.0 x || x == n, with_one P n found.0 found.1 here) in
    never (found.0, without_one P n found.0 found.1 without))

reached_word : (p : Program) (x : ℕ) → IsReached p x → IsWord p.text x
reached_word p x (entry word) = word
reached_word p x (code_word c word) = word
reached_word p x (walk r c word) = word

decides : (p : Program) (is : ℕ → Bool) → IsRightBelow (IsReached p) (end_of p.text) is → Decides p is
decides p is right = record {
  only = right.only;
  all = λ x reached.
      let word = some_is (word_at p.text x) (reached_word p x reached) in
      let stands = stood x p.text.lo word.0 p.text.words word.1 in
      let most : x + 4 ≤ p.text.lo + 4 * length p.text.words = stands.most in
      right.all x (omega (arith, most)) reached;
}

-- ALL NOTES DIE

module _ (bytes : List ℕ) (is : ℕ → Bool) (p : Program) (read : IsReadAs bytes is p) (none : early_refusal bytes is p ≡ None) (accepted : (r : Refusal) → IsRefusalOf bytes r → ⊥) where
  one_more : (i : ℕ) → ((j : ℕ) (note : Note) → j < i → slice_get p.notes j ≡ Some note → NoteDies is p note) → ((note : Note) → slice_get p.notes i ≡ Some note → NoteDies is p note) → (j : ℕ) (note : Note) → j < suc i → slice_get p.notes j ≡ Some note → NoteDies is p note
  one_more i before here j note less e = by_test (j == i) refl
    where
      by_test : (at : Bool) → (j == i) ≡ at → NoteDies is p note
      by_test true at = here note (subst (λ k. slice_get p.notes k ≡ Some note) (eqb-true j i at) e)
      by_test false at = let apart : j ≡ i → ⊥ = eqb-false j i at in before j note (omega arith) e

  die_below : (i : ℕ) → ¬ ¬ ((j : ℕ) (note : Note) → j < i → slice_get p.notes j ≡ Some note → NoteDies is p note)
  die_below zero never = never (λ j note less e. absurd (omega arith))
  die_below (suc i) never = die_below i (λ before. at before (slice_get p.notes i) refl)
    where
      at : ((j : ℕ) (note : Note) → j < i → slice_get p.notes j ≡ Some note → NoteDies is p note) → (o : Option Note) → slice_get p.notes i ≡ o → ⊥
      at before None e = never (one_more i before (λ note f. let wrong : Some note ≡ None = sym f ∙ e in absurd (cc)))
      at before (Some note) e =
          accepted _
          (by_lift (alive read none (record {
            before = before;
            note = note;
            there = e;
            alive = λ dies. never (one_more i before (λ other f. let both : Some note ≡ Some other = sym e ∙ f in let same : note ≡ other = cc in subst (NoteDies is p) same dies));
          })))

pub not_refused_accepted : NotRefusedIsAccepted
not_refused_accepted bytes refused never =
    let file : file_refusal_of bytes ≡ None = none_of (file_refusal_of bytes) (λ r e. refused r (by_file e)) in
    let relocs : reloc_refusal_of bytes ≡ None = none_of (reloc_refusal_of bytes) (λ r e. refused r (by_relocs file e)) in
    let p : Program = program_with bytes (code_words bytes) in
    some_test (IsReached p) (end_of p.text)
    (λ found.
    let read : IsReadAs bytes found.0 p = record { file = file; relocs = relocs; program = is_program bytes (code_words bytes) (are_code_words bytes); reached = decides p found.0 found.1 } in
    let none : early_refusal bytes found.0 p ≡ None = none_of (early_refusal bytes found.0 p) (λ r e. refused r (by_lift (early read e))) in
    die_below bytes found.0 p read none refused (length p.notes)
    (λ dies. never (record {
      reached = found.0;
      program = p;
      accepted = record { read = read; early = none; dies = λ i note e. dies i note (slice_get_within p.notes i note e) e };
    })))
