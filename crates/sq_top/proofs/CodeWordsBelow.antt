-- Each file has a list of its code words.
use Rattle.std.proofs.Common.{◌≡◌, ℕ, zero, suc, ◌+◌, ◌<◌, ◌≤◌, Bool, true, false, ◌&&◌, nat_eq, nat_lt, max, List, [], ◌∷◌, Option, Some, None, if◌then◌else◌, refl, sym, ap, ◌∙◌, arith}
use Rattle.std.specs.List.{AllByRecursion}
use Rattle.std.proofs.lemmas.Bool.Decides.{nat_tests}
use Rattle.std.proofs.Math.Bool.{and-false}
use Rattle.sq_elf.specs.Text.{text_of}
use Rattle.sq_reloc.specs.declared.entry.Entry.{Entry}
use Rattle.sq_reloc.specs.declared.mark.CodeWord.{CodeWord}
use Rattle.sq_reloc.specs.Entries.{first_target, entries_of}
use Rattle.sq_reloc.specs.Outside.{is_code_entry, code_target, is_beaten, code_word_at}
use Rattle.sq_reloc.specs.CodeWords.{IsAscending, listed_at, AreCodeWords}

-- WHERE THERE ARE NONE

-- an address above those of all entries
abbrev above : List Entry → ℕ
above [] = 0
above (e ∷ entries) = max (e.offset + 1) (above entries)

no_target : (test : Entry → Bool) (entries : List Entry) (x : ℕ) → above entries ≤ x → first_target test entries x ≡ None
no_target test [] x far = refl
no_target test (e ∷ entries) x far =
    let apart : nat_eq e.offset x ≡ false = grind (arith, nat_tests) in
    let miss : (test e && nat_eq e.offset x) ≡ false = rw apart (and-false (test e)) in
    rw miss (no_target test entries x (omega arith))

no_word : (bytes : List ℕ) (x : ℕ) → above (entries_of bytes) ≤ x → code_word_at bytes x ≡ None
no_word bytes x far = by_test (is_beaten bytes x) (no_target (is_code_entry (text_of bytes)) (entries_of bytes) x far)
  where
    by_test : (beaten : Bool) → code_target bytes x ≡ None → (if beaten then None else code_target bytes x) ≡ None
    by_test true none = refl
    by_test false none = none

-- THE LIST

abbrev with_word : ℕ → Option ℕ → List CodeWord → List CodeWord
with_word at None rest = rest
with_word at (Some to) rest = record { at = at; to = to } ∷ rest

-- the code words at n addresses from `at` on
abbrev words_from : List ℕ → ℕ → ℕ → List CodeWord
words_from bytes at zero = []
words_from bytes at (suc n) = with_word at (code_word_at bytes at) (words_from bytes (at + 1) n)

abbrev AreBehind : ℕ → List CodeWord → Type 0
AreBehind x words = AllByRecursion (λ word. x < word.at) words

one_behind : (x at : ℕ) (o : Option ℕ) (rest : List CodeWord) → x < at → AreBehind x rest → AreBehind x (with_word at o rest)
one_behind x at None rest less behind = behind
one_behind x at (Some to) rest less behind = (less, behind)

all_behind : (bytes : List ℕ) (x at n : ℕ) → x < at → AreBehind x (words_from bytes at n)
all_behind bytes x at zero less = tt
all_behind bytes x at (suc n) less = one_behind x at (code_word_at bytes at) (words_from bytes (at + 1) n) less (all_behind bytes x (at + 1) n (omega arith))

one_ascends : (at : ℕ) (o : Option ℕ) (rest : List CodeWord) → AreBehind at rest → IsAscending rest → IsAscending (with_word at o rest)
one_ascends at None rest behind ascends = ascends
one_ascends at (Some to) rest behind ascends = (behind, ascends)

all_ascend : (bytes : List ℕ) (at n : ℕ) → IsAscending (words_from bytes at n)
all_ascend bytes at zero = tt
all_ascend bytes at (suc n) =
    one_ascends at (code_word_at bytes at) (words_from bytes (at + 1) n) (all_behind bytes at (at + 1) n (omega arith)) (all_ascend bytes (at + 1) n)

-- behind an address nothing is listed there
not_listed : (words : List CodeWord) (x : ℕ) → AreBehind x words → listed_at words x ≡ None
not_listed [] x behind = refl
not_listed (word ∷ words) x behind =
    let less : x < word.at = behind.0 in
    let apart : nat_eq word.at x ≡ false = grind (arith, nat_tests) in
    rw apart (not_listed words x behind.1)

-- an address that is the first, and one that isn't
first_listed : (at x : ℕ) (o : Option ℕ) (rest : List CodeWord) → nat_eq at x ≡ true → listed_at rest x ≡ None → listed_at (with_word at o rest) x ≡ o
first_listed at x None rest here none = none
first_listed at x (Some to) rest here none = rw here refl

later_listed : (at x : ℕ) (o : Option ℕ) (rest : List CodeWord) → nat_eq at x ≡ false → listed_at (with_word at o rest) x ≡ listed_at rest x
later_listed at x None rest apart = refl
later_listed at x (Some to) rest apart = rw apart refl

listed : (bytes : List ℕ) (x at n : ℕ) → at ≤ x → x < at + n → listed_at (words_from bytes at n) x ≡ code_word_at bytes x
listed bytes x at zero low high = absurd (omega arith)
listed bytes x at (suc n) low high = by_test (nat_eq at x) refl (λ less. listed bytes x (at + 1) n (omega (arith, less)) (omega arith))
  where
    by_test : (here : Bool) → nat_eq at x ≡ here → (at < x → listed_at (words_from bytes (at + 1) n) x ≡ code_word_at bytes x) → listed_at (words_from bytes at (suc n)) x ≡ code_word_at bytes x
    by_test true here later =
        let same : at ≡ x = grind (arith, nat_tests) in
        first_listed at x (code_word_at bytes at) (words_from bytes (at + 1) n) here (not_listed (words_from bytes (at + 1) n) x (all_behind bytes x (at + 1) n (omega arith)))
        ∙ ap (code_word_at bytes) same
    by_test false apart later =
        let less : at < x = grind (arith, nat_tests) in
        later_listed at x (code_word_at bytes at) (words_from bytes (at + 1) n) apart ∙ later less

past : (bytes : List ℕ) (x at n : ℕ) → at + n ≤ x → listed_at (words_from bytes at n) x ≡ None
past bytes x at zero far = refl
past bytes x at (suc n) far =
    let apart : nat_eq at x ≡ false = grind (arith, nat_tests) in
    later_listed at x (code_word_at bytes at) (words_from bytes (at + 1) n) apart ∙ past bytes x (at + 1) n (omega arith)

abbrev pub code_words : List ℕ → List CodeWord
code_words bytes = words_from bytes 0 (above (entries_of bytes))

pub are_code_words : (bytes : List ℕ) → AreCodeWords bytes (code_words bytes)
are_code_words bytes = record {
  ascending = all_ascend bytes 0 (above (entries_of bytes));
  exactly = λ x. by_test x (nat_lt x (above (entries_of bytes))) refl;
}
  where
    by_test : (x : ℕ) (below : Bool) → nat_lt x (above (entries_of bytes)) ≡ below → listed_at (words_from bytes 0 (above (entries_of bytes))) x ≡ code_word_at bytes x
    by_test x true e = let less : x < 0 + above (entries_of bytes) = grind (arith, nat_tests) in listed bytes x 0 (above (entries_of bytes)) (omega arith) less
    by_test x false e =
        let far : above (entries_of bytes) ≤ x = grind (arith, nat_tests) in
        past bytes x 0 (above (entries_of bytes)) (omega arith) ∙ sym (no_word bytes x far)
