-- The unbeaten targets of code entries, by ascending address, are the code words of the file.
use Rattle.std.proofs.Common.{◌≡◌, ◌<◌, ℕ, Bool, true, false, nat_eq, nat_lt, cond, if◌then◌else◌, List, [], ◌∷◌, Option, Some, None, refl, sym, ap, ◌∙◌, arith}
use Rattle.std.specs.Ordering.{nat_cmp}
use Rattle.std.specs.declared.cmp.Ordering.TheVariants.{Less, Equal, Greater}
use Rattle.std.specs.BTreeMap.{BTreeMap, IsOrdered, is_at}
use Rattle.std.specs.BTreeMap as tree
use Rattle.std.specs.Map.{lookup, keys_of}
use Rattle.std.specs.List.{AllByRecursion}
use Rattle.std.specs.List.Sorted.{IsStrictlySortedBy}
use Rattle.std.proofs.lemmas.Bool.Decides.{nat_tests}
use Rattle.std.proofs.lemmas.Map.Keys.{sorted_head, sorted_tail}
use Rattle.sq_reloc.specs.declared.mark.CodeWord.{CodeWord}
use Rattle.sq_reloc.specs.Outside.{is_beaten, code_target}
use Rattle.sq_reloc.specs.CodeWords.{IsAscending, listed_at, unbeaten, AreCodeWords}

-- of the order of numbers
less_is : (a b : ℕ) (less : Bool) → nat_lt a b ≡ less → nat_cmp a b ≡ Less → a < b
less_is a b true is below = grind (arith, nat_tests)
less_is a b false is below = by_same (nat_eq a b) refl
  where
    by_same : (same : Bool) → nat_eq a b ≡ same → a < b
    by_same true same = let other : nat_cmp a b ≡ Equal = rw (is, same) refl in absurd (cc (below, other))
    by_same false same = let other : nat_cmp a b ≡ Greater = rw (is, same) refl in absurd (cc (below, other))

at_is : (a k : ℕ) (less : Bool) → nat_lt a k ≡ less → is_at (nat_cmp a) k ≡ nat_eq k a
at_is a k true is = let apart : nat_eq k a ≡ false = grind (arith, nat_tests) in rw (is, apart) refl
at_is a k false is = by_same (nat_eq a k) refl
  where
    by_same : (same : Bool) → nat_eq a k ≡ same → is_at (nat_cmp a) k ≡ nat_eq k a
    by_same true same = let back : nat_eq k a ≡ true = grind (arith, nat_tests) in rw (is, same, back) refl
    by_same false same = let back : nat_eq k a ≡ false = grind (arith, nat_tests) in rw (is, same, back) refl

module _ (beaten : ℕ → Bool) where
  -- what is listed at an address
  abbrev expected : ℕ → Option ℕ → Option ℕ
  expected address target = if beaten address then None else target

  head_beaten : (pair : ℕ × ℕ) (pairs : List (ℕ × ℕ)) → beaten pair.0 ≡ true → unbeaten beaten (pair ∷ pairs) ≡ unbeaten beaten pairs
  head_beaten pair pairs is = rw is refl

  head_kept : (pair : ℕ × ℕ) (pairs : List (ℕ × ℕ)) → beaten pair.0 ≡ false → unbeaten beaten (pair ∷ pairs) ≡ record { at = pair.0; to = pair.1 } ∷ unbeaten beaten pairs
  head_kept pair pairs is = rw is refl

  module _ (pair : ℕ × ℕ) (pairs : List (ℕ × ℕ)) (address : ℕ) (rest : listed_at (unbeaten beaten pairs) address ≡ expected address (lookup (is_at (nat_cmp address)) pairs)) where
    abbrev found : Bool → Option ℕ
    found here = cond here (Some pair.1) (lookup (is_at (nat_cmp address)) pairs)

    looked : lookup (is_at (nat_cmp address)) (pair ∷ pairs) ≡ found (nat_eq pair.0 address)
    looked = ap found (at_is address pair.0 (nat_lt address pair.0) refl)

    elsewhere : (same : Bool) → nat_eq pair.0 address ≡ same → beaten pair.0 ≡ true → listed_at (unbeaten beaten pairs) address ≡ expected address (found same)
    elsewhere false same is = rest
    elsewhere true same is =
        let equal : pair.0 ≡ address = grind (arith, nat_tests) in
        let test : beaten address ≡ true = ap beaten (sym equal) ∙ is in
        rest ∙ (rw test refl)

    here : (same : Bool) → nat_eq pair.0 address ≡ same → beaten pair.0 ≡ false → listed_at (record { at = pair.0; to = pair.1 } ∷ unbeaten beaten pairs) address ≡ expected address (found same)
    here false same is = (rw same refl) ∙ rest
    here true same is =
        let equal : pair.0 ≡ address = grind (arith, nat_tests) in
        let test : beaten address ≡ false = ap beaten (sym equal) ∙ is in
        rw (same, test) refl

    listed_head : (test : Bool) → beaten pair.0 ≡ test → listed_at (unbeaten beaten (pair ∷ pairs)) address ≡ expected address (lookup (is_at (nat_cmp address)) (pair ∷ pairs))
    listed_head true is =
        ap (λ words. listed_at words address) (head_beaten pair pairs is) ∙ elsewhere (nat_eq pair.0 address) refl is ∙ ap (expected address) (sym looked)
    listed_head false is =
        ap (λ words. listed_at words address) (head_kept pair pairs is) ∙ here (nat_eq pair.0 address) refl is ∙ ap (expected address) (sym looked)

  nothing : (test : Bool) → ◌≡◌ {A = Option ℕ} None (if test then None else None)
  nothing true = refl
  nothing false = refl

  listed : (pairs : List (ℕ × ℕ)) (address : ℕ) → listed_at (unbeaten beaten pairs) address ≡ expected address (lookup (is_at (nat_cmp address)) pairs)
  listed [] address = nothing (beaten address)
  listed (pair ∷ pairs) address = listed_head pair pairs address (listed pairs address) (beaten pair.0) refl

  above : (address : ℕ) (pairs : List (ℕ × ℕ)) → AllByRecursion (λ key. nat_cmp address key ≡ Less) (keys_of pairs) → AllByRecursion (λ (word : CodeWord). address < word.at) (unbeaten beaten pairs)
  above address [] all = tt
  above address (pair ∷ pairs) all = by_test (beaten pair.0) refl (above address pairs all.1)
    where
      by_test : (test : Bool) → beaten pair.0 ≡ test → AllByRecursion (λ (word : CodeWord). address < word.at) (unbeaten beaten pairs) → AllByRecursion (λ (word : CodeWord). address < word.at) (unbeaten beaten (pair ∷ pairs))
      by_test true is rest = rw is rest
      by_test false is rest = rw is (less_is address pair.0 (nat_lt address pair.0) refl all.0, rest)

  ascending : (pairs : List (ℕ × ℕ)) → IsStrictlySortedBy nat_cmp (keys_of pairs) → IsAscending (unbeaten beaten pairs)
  ascending [] sorted = tt
  ascending (pair ∷ pairs) sorted = by_test (beaten pair.0) refl (ascending pairs (sorted_tail nat_cmp pair.0 (keys_of pairs) sorted))
    where
      by_test : (test : Bool) → beaten pair.0 ≡ test → IsAscending (unbeaten beaten pairs) → IsAscending (unbeaten beaten (pair ∷ pairs))
      by_test true is rest = rw is rest
      by_test false is rest = rw is (above pair.0 pairs (sorted_head nat_cmp pair.0 (keys_of pairs) sorted), rest)

pub unbeaten_are_code_words : (bytes : List ℕ) (targets : BTreeMap ℕ ℕ) (words : List CodeWord) → IsOrdered nat_cmp targets → ((address : ℕ) → tree.get nat_cmp targets address ≡ code_target bytes address) → words ≡ unbeaten (is_beaten bytes) targets.entries → AreCodeWords bytes words
unbeaten_are_code_words bytes targets words ordered targets_are is = record {
  ascending = rw is (ascending (is_beaten bytes) targets.entries ordered);
  exactly = λ address. ap (λ list. listed_at list address) is ∙ listed (is_beaten bytes) targets.entries address ∙ ap (expected (is_beaten bytes) address) (targets_are address);
}
