-- The pages with a stale byte are those of the bytes outside text that entries make stale.
use Rattle.std.proofs.Common.{◌≡◌, ◌+◌, ℕ, Bool, true, false, not, nat_eq, ◌&&◌, ◌||◌, List, [], ◌∷◌, refl, sym, ap, ◌∙◌, arith}
use Rattle.std.specs.Option.{is_some}
use Rattle.std.specs.List.{list_any}
use Rattle.std.specs.declared.hash.FoldHasher.{FoldHasher}
use Rattle.std.specs.declared.hash.BuildHasherDefault.{BuildHasherDefault}
use Rattle.std.specs.HashSet.{HashSet}
use Rattle.std.specs.HashSet as set
use Rattle.std.proofs.lemmas.Bool.Decides.{nat_tests}
use Rattle.std.proofs.lemmas.Bool.{or_left, and_from, or_right}
use Rattle.sq_elf.specs.Text.{text_of, is_in_text}
use Rattle.sq_reloc.specs.Entries.{entries_of}
use Rattle.sq_reloc.specs.Outside.{is_stale_by, is_touched, is_beaten, is_stale, code_target, word_start}
use Rattle.sq_reloc.specs.Pages.{page_of, is_touched_in, AreStalePages}

-- of tests
same_number : (a b : ℕ) → nat_eq a b ≡ true → a ≡ b
same_number a b is = grind (arith, nat_tests)

is_same : (a b : ℕ) → a ≡ b → nat_eq a b ≡ true
is_same a b is = grind (arith, nat_tests)

first_of : (a b : Bool) → (a && b) ≡ true → a ≡ true
first_of true b is = refl
first_of false b is = is

second_of : (a b : Bool) → (a && b) ≡ true → b ≡ true
second_of true b is = is
second_of false b is = absurd (cc)

by_two : {P : Type 0} (a b c : Bool) → (a || (b && c)) ≡ true → (a ≡ true → P) → (c ≡ true → P) → P
by_two true b c is first third = first refl
by_two false b c is first third = third (second_of b c is)

by_four : {P : Type 0} (a b c d : Bool) → (a || b || c || d) ≡ true → (a ≡ true → P) → (b ≡ true → P) → (c ≡ true → P) → (d ≡ true → P) → P
by_four true b c d is at_a at_b at_c at_d = at_a refl
by_four false true c d is at_a at_b at_c at_d = at_b refl
by_four false false true d is at_a at_b at_c at_d = at_c refl
by_four false false false d is at_a at_b at_c at_d = at_d is

passing : (test : ℕ → Bool) (number : ℕ) (numbers : List ℕ) → list_any (nat_eq number) numbers ≡ true → test number ≡ true → list_any test numbers ≡ true
passing test number [] among passes = among
passing test number (first ∷ others) among passes = by_same (nat_eq number first) refl (λ rest. passing test number others rest passes)
  where
    by_same : (same : Bool) → nat_eq number first ≡ same → (list_any (nat_eq number) others ≡ true → list_any test others ≡ true) → list_any test (first ∷ others) ≡ true
    by_same true is later = or_left (test first) (list_any test others) (ap test (sym (same_number number first is)) ∙ passes)
    by_same false is later = let rest : list_any (nat_eq number) others ≡ true = rw is at among in or_right (test first) (list_any test others) (later rest)

record Passing (test : ℕ → Bool) : Type 0 where
  number : ℕ
  passes : test number ≡ true

one_passing : (test : ℕ → Bool) (numbers : List ℕ) → list_any test numbers ≡ true → Passing test
one_passing test [] some = absurd (cc)
one_passing test (first ∷ others) some = by_first (test first) refl (one_passing test others)
  where
    by_first : (passes : Bool) → test first ≡ passes → (list_any test others ≡ true → Passing test) → Passing test
    by_first true is later = record { number = first; passes = is }
    by_first false is later = let rest : list_any test others ≡ true = rw is at some in later rest

-- a byte outside text in a page that an entry makes stale
record TouchedByteIn (bytes : List ℕ) (page : ℕ) : Type 0 where
  address : ℕ
  in_page : page_of address ≡ page
  touched : is_touched bytes address ≡ true

module _ (bytes : List ℕ) where
  -- no word has bytes in two pages
  beaten_byte : (address : ℕ) → is_beaten bytes (word_start address) ≡ true → TouchedByteIn bytes (page_of address)
  beaten_byte address beaten =
      let first : page_of (word_start address) ≡ page_of address = omega arith in
      let second : page_of (word_start address + 1) ≡ page_of address = omega arith in
      let third : page_of (word_start address + 2) ≡ page_of address = omega arith in
      let fourth : page_of (word_start address + 3) ≡ page_of address = omega arith in
      by_four (is_touched bytes (word_start address)) (is_touched bytes (word_start address + 1)) (is_touched bytes (word_start address + 2)) (is_touched bytes (word_start address + 3)) beaten
      (λ is. record { address = word_start address; in_page = first; touched = is })
      (λ is. record { address = word_start address + 1; in_page = second; touched = is })
      (λ is. record { address = word_start address + 2; in_page = third; touched = is })
      (λ is. record { address = word_start address + 3; in_page = fourth; touched = is })

  touched_byte : (address : ℕ) → is_stale bytes address ≡ true → TouchedByteIn bytes (page_of address)
  touched_byte address stale =
      by_two (is_touched bytes address) (is_some (code_target bytes (word_start address))) (is_beaten bytes (word_start address)) stale
      (λ is. record { address = address; in_page = refl; touched = is })
      (beaten_byte address)

  pub stale_pages : (stale pages : HashSet ℕ (BuildHasherDefault FoldHasher)) → ((address : ℕ) → set.contains nat_eq stale address ≡ is_stale_by (text_of bytes) (entries_of bytes) address) → ((page : ℕ) → set.contains nat_eq pages page ≡ list_any (is_touched_in bytes page) stale.keys) → AreStalePages bytes pages
  stale_pages stale pages stale_is pages_are = record {
    every = λ address is.
        let byte : TouchedByteIn bytes (page_of address) = touched_byte address is in
        let among : set.contains nat_eq stale byte.address ≡ true = stale_is byte.address ∙ second_of (not (is_in_text (text_of bytes) byte.address)) (is_stale_by (text_of bytes) (entries_of bytes) byte.address) byte.touched in
        let passes : is_touched_in bytes (page_of address) byte.address ≡ true = and_from (is_touched bytes byte.address) (nat_eq (page_of byte.address) (page_of address)) byte.touched (is_same (page_of byte.address) (page_of address) byte.in_page) in
        pages_are (page_of address) ∙ passing (is_touched_in bytes (page_of address)) byte.address stale.keys among passes;
    only = λ page is.
        let byte : Passing (is_touched_in bytes page) = one_passing (is_touched_in bytes page) stale.keys (sym (pages_are page) ∙ is) in
        record {
          address = byte.number;
          in_page = same_number (page_of byte.number) page (second_of (is_touched bytes byte.number) (nat_eq (page_of byte.number) page) byte.passes);
          stale = or_left (is_touched bytes byte.number) (is_some (code_target bytes (word_start byte.number)) && is_beaten bytes (word_start byte.number)) (first_of (is_touched bytes byte.number) (nat_eq (page_of byte.number) page) byte.passes);
        };
  }
