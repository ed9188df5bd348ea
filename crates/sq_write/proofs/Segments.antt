-- The segments of an accepted file, by address: there is one such list.
use Rattle.std.proofs.Common.{◌≡◌, ℕ, zero, suc, ◌+◌, ◌<◌, ◌≤◌, true, false, nat_eq, nat_lt, nat_le, ◌⊎◌, inl, inr, ⊎_elim, if◌then◌else◌, List, [], ◌∷◌, ◌++◌, sum_by, None, refl, sym, ap, ◌∙◌, subst, arith}
use Rattle.std.specs.List.{AllByRecursion, Contains}
use Rattle.std.specs.List.Sorted.{IsPermutation, IsNonDecreasingBy}
use Rattle.std.proofs.lemmas.Bool.{cases_Bool, lt-ltb, ltb-true, leb-true, eqb-true, eq-eqb, and_parts}
use Rattle.std.proofs.lemmas.Bool.Decides.{nat_tests}
use Rattle.std.proofs.lemmas.List.Elements.{All-from_recursion, recursion_from_All, All-contains, Contains-append_cases, Contains-append_right}
use Rattle.std.proofs.lemmas.List.Sorted.{IsPermutation-refl, IsPermutation-sym, IsPermutation-cons, IsPermutation-trans, IsPermutation-middle, Contains-permutation, sum_by-IsPermutation}
use Rattle.std.proofs.lemmas.List.Sums.{sum_by-cons, sum_by_push}
use Rattle.sq_elf.specs.declared.segment.Segment.{Segment}
use Rattle.sq_elf.specs.Headers.{phnum_of, is_load, segment_of}
use Rattle.sq_elf.specs.Ranges.{meets}
use Rattle.sq_elf.specs.Memory.{has_memory, segments_before, segments_of, AreSegments, MemoryPiece, own_piece, segment_pieces, image_before, pieces_meet, AreApart}
use Rattle.sq_elf.specs.Refusing.{file_refusal_of}
use Rattle.sq_elf.proofs.Apart.{pieces_are_apart}
use Rattle.sq_write.specs.Pieces.{insert_segment, by_address}

-- Lists of segments that ascend by address

abbrev pub IsSorted : List Segment → Type 0
IsSorted [] = Unit {0}
IsSorted (s ∷ ss) = AllByRecursion (λ t. s.address ≤ t.address) ss × IsSorted ss

abbrev IsRising : List Segment → Type 0
IsRising [] = Unit {0}
IsRising (s ∷ ss) = AllByRecursion (λ t. s.address < t.address) ss × IsRising ss

first_or_later : (x : Segment) (xs : List Segment) (z : Segment) → Contains (x ∷ xs) z → (x ≡ z) ⊎ Contains xs z
first_or_later x xs z has =
    elim (Contains-append_cases (x ∷ []) xs z has) [ inl one ↦ inl (only one) | inr later ↦ inr later ]
  where
    only : Contains (x ∷ []) z → x ≡ z
    only (zero, within, is) = is
    only (suc k, within, is) = absurd (omega arith)

is_first : (x : Segment) (xs : List Segment) → Contains (x ∷ xs) x
is_first x xs = (0, omega arith, refl)

is_later : (x : Segment) (xs : List Segment) (z : Segment) → Contains xs z → Contains (x ∷ xs) z
is_later x xs z has = Contains-append_right (x ∷ []) xs z has

above : (a : ℕ) (ss : List Segment) (z : Segment) → AllByRecursion (λ t. a < t.address) ss → Contains ss z → a < z.address
above a ss z all has = All-contains (λ t. a < t.address) ss z (All-from_recursion (λ t. a < t.address) ss all) has

-- two that have the same elements are one
unique : (xs ys : List Segment) → IsRising xs → IsRising ys → ((z : Segment) → Contains xs z → Contains ys z) → ((z : Segment) → Contains ys z → Contains xs z) → xs ≡ ys
unique [] [] up vp to from = refl
unique [] (y ∷ ys) up vp to from = let none = from y (is_first y ys) in absurd (omega (arith, none.1))
unique (x ∷ xs) [] up vp to from = let none = to x (is_first x xs) in absurd (omega (arith, none.1))
unique (x ∷ xs) (y ∷ ys) up vp to from =
    heads (first_or_later y ys x (to x (is_first x xs))) (first_or_later x xs y (from y (is_first y ys)))
    (unique xs ys up.1 vp.1)
  where
    tails : x ≡ y → ((z : Segment) → Contains xs z → Contains ys z) × ((z : Segment) → Contains ys z → Contains xs z)
    tails same = (
      λ z has. ⊎_elim
          (λ (e : y ≡ z). let far = above x.address xs z up.0 has in absurd (omega (arith, far, ap (λ (s : Segment). s.address) (same ∙ e))))
          (λ (later : Contains ys z). later)
          (first_or_later y ys z (to z (is_later x xs z has))),
      λ z has. ⊎_elim
          (λ (e : x ≡ z). let far = above y.address ys z vp.0 has in absurd (omega (arith, far, ap (λ (s : Segment). s.address) (sym same ∙ e))))
          (λ (later : Contains xs z). later)
          (first_or_later x xs z (from z (is_later y ys z has))),
    )

    heads : (y ≡ x) ⊎ Contains ys x → (x ≡ y) ⊎ Contains xs y → (((z : Segment) → Contains xs z → Contains ys z) → ((z : Segment) → Contains ys z → Contains xs z) → xs ≡ ys) → x ∷ xs ≡ y ∷ ys
    heads (inl e) other more =
        let same : x ≡ y = sym e in
        let rest : xs ≡ ys = more (tails same).0 (tails same).1 in
        cc
    heads (inr far) (inl same) more =
        let rest : xs ≡ ys = more (tails same).0 (tails same).1 in
        cc
    heads (inr far) (inr away) more =
        let a = above y.address ys x vp.0 far in
        let b = above x.address xs y up.0 away in
        absurd (omega (arith, a, b))

-- how many stand at an address
abbrev at_address : ℕ → Segment → ℕ
at_address a s = if nat_eq s.address a then 1 else 0

at_itself : (s : Segment) → at_address s.address s ≡ 1
at_itself s = rw (eq-eqb s.address s.address refl) refl

strict : (a : ℕ) (ss : List Segment) → AllByRecursion (λ t. a ≤ t.address) ss → sum_by (at_address a) ss ≡ 0 → AllByRecursion (λ t. a < t.address) ss
strict a [] all none = tt
strict a (t ∷ ss) all none =
    let sum = sum_by-cons (at_address a) t ss in
    (apart t all.0 (omega (arith, sum, none)), strict a ss all.1 (omega (arith, sum, none)))
  where
    apart : (t : Segment) → a ≤ t.address → at_address a t ≡ 0 → a < t.address
    apart t low nought = by_test (cases_Bool (nat_eq t.address a))
      where
        by_test : (nat_eq t.address a ≡ true) ⊎ (nat_eq t.address a ≡ false) → a < t.address
        by_test (inl e) = let one : 1 ≡ 0 = rw e at nought in absurd (omega (arith, one))
        by_test (inr e) = grind (arith, nat_tests)

rising : (ss : List Segment) → IsSorted ss → ((a : ℕ) → sum_by (at_address a) ss ≤ 1) → IsRising ss
rising [] sorted few = tt
rising (s ∷ ss) sorted few = (
  strict s.address ss sorted.0 (omega (arith, few s.address, sum_by-cons (at_address s.address) s ss, at_itself s)),
  rising ss sorted.1 (λ a. omega (arith, few a, sum_by-cons (at_address a) s ss)),
)

sorted_from : (ss : List Segment) → IsNonDecreasingBy (λ s. s.address) ss → IsSorted ss
sorted_from [] up = tt
sorted_from (s ∷ ss) up = (
  recursion_from_All (λ t. s.address ≤ t.address) ss (λ k d within. up 0 (suc k) d (omega arith) (omega arith)),
  sorted_from ss (λ i j d le within. up (suc i) (suc j) d (omega arith) (omega arith)),
)

-- The list that is made by insertion

insert_moves : (s : Segment) (ts : List Segment) → IsPermutation (s ∷ ts) (insert_segment s ts)
insert_moves s [] = IsPermutation-refl (s ∷ [])
insert_moves s (t ∷ ts) = by_test (insert_moves s ts) (cases_Bool (nat_le s.address t.address))
  where
    by_test : IsPermutation (s ∷ ts) (insert_segment s ts) → (nat_le s.address t.address ≡ true) ⊎ (nat_le s.address t.address ≡ false) → IsPermutation (s ∷ t ∷ ts) (insert_segment s (t ∷ ts))
    by_test more (inl e) = rw e (IsPermutation-refl (s ∷ t ∷ ts))
    by_test more (inr e) =
        rw e
        (IsPermutation-trans (s ∷ t ∷ ts) (t ∷ s ∷ ts) (t ∷ insert_segment s ts)
        (IsPermutation-sym (t ∷ s ∷ ts) (s ∷ t ∷ ts) (IsPermutation-middle (t ∷ []) s ts))
        (IsPermutation-cons t (s ∷ ts) (insert_segment s ts) more))

pub by_address_moves : (ss : List Segment) → IsPermutation ss (by_address ss)
by_address_moves [] = IsPermutation-refl []
by_address_moves (s ∷ ss) =
    IsPermutation-trans (s ∷ ss) (s ∷ by_address ss) (insert_segment s (by_address ss))
    (IsPermutation-cons s ss (by_address ss) (by_address_moves ss)) (insert_moves s (by_address ss))

insert_above : (a : ℕ) (s : Segment) (ts : List Segment) → a ≤ s.address → AllByRecursion (λ t. a ≤ t.address) ts → AllByRecursion (λ t. a ≤ t.address) (insert_segment s ts)
insert_above a s [] low all = (low, tt)
insert_above a s (t ∷ ts) low all = by_test (insert_above a s ts low all.1) (cases_Bool (nat_le s.address t.address))
  where
    by_test : AllByRecursion (λ t. a ≤ t.address) (insert_segment s ts) → (nat_le s.address t.address ≡ true) ⊎ (nat_le s.address t.address ≡ false) → AllByRecursion (λ t. a ≤ t.address) (insert_segment s (t ∷ ts))
    by_test more (inl e) = rw e (low, all)
    by_test more (inr e) = rw e (all.0, more)

at_least_all : (a b : ℕ) (ts : List Segment) → a ≤ b → AllByRecursion (λ t. b ≤ t.address) ts → AllByRecursion (λ t. a ≤ t.address) ts
at_least_all a b [] low all = tt
at_least_all a b (t ∷ ts) low all = (omega (arith, all.0), at_least_all a b ts low all.1)

insert_sorted : (s : Segment) (ts : List Segment) → IsSorted ts → IsSorted (insert_segment s ts)
insert_sorted s [] sorted = (tt, tt)
insert_sorted s (t ∷ ts) sorted = by_test (insert_sorted s ts sorted.1) (cases_Bool (nat_le s.address t.address))
  where
    above_first : nat_le s.address t.address ≡ false → t.address ≤ s.address
    above_first e = grind (arith, nat_tests)

    by_test : IsSorted (insert_segment s ts) → (nat_le s.address t.address ≡ true) ⊎ (nat_le s.address t.address ≡ false) → IsSorted (insert_segment s (t ∷ ts))
    by_test more (inl e) =
        let low = leb-true s.address t.address e in
        rw e ((low, at_least_all s.address t.address ts low sorted.0), sorted)
    by_test more (inr e) = rw e (insert_above t.address s ts (above_first e) sorted.0, more)

pub by_address_sorted : (ss : List Segment) → IsSorted (by_address ss)
by_address_sorted [] = tt
by_address_sorted (s ∷ ss) = insert_sorted s (by_address ss) (by_address_sorted ss)

-- No two segments of an accepted file stand at one address

pub all_front : (P : MemoryPiece → Type 0) (xs ys : List MemoryPiece) → AllByRecursion P (xs ++ ys) → AllByRecursion P xs
all_front P [] ys all = tt
all_front P (x ∷ xs) ys all = (all.0, all_front P xs ys all.1)

pub all_first_behind : (P : MemoryPiece → Type 0) (xs : List MemoryPiece) (y : MemoryPiece) (ys : List MemoryPiece) → AllByRecursion P (xs ++ y ∷ ys) → P y
all_first_behind P [] y ys all = all.0
all_first_behind P (x ∷ xs) y ys all = all_first_behind P xs y ys all.1

pub apart_front : (xs ys : List MemoryPiece) → AreApart (xs ++ ys) → AreApart xs
apart_front [] ys apart = tt
apart_front (x ∷ xs) ys apart = (all_front (λ q. pieces_meet x q ≡ false) xs ys apart.0, apart_front xs ys apart.1)

pub apart_from_next : (xs : List MemoryPiece) (y : MemoryPiece) (ys : List MemoryPiece) → AreApart (xs ++ y ∷ ys) → AllByRecursion (λ p. pieces_meet p y ≡ false) xs
apart_from_next [] y ys apart = tt
apart_from_next (x ∷ xs) y ys apart = (all_first_behind (λ q. pieces_meet x q ≡ false) xs y ys apart.0, apart_from_next xs y ys apart.1)

-- ranges that begin at one place meet
apart_begins : (a size b other : ℕ) → 0 < size → 0 < other → meets a size b other ≡ false → (a ≡ b → ⊥)
apart_begins a size b other some more apart same =
    let first : nat_lt a (b + other) ≡ true = lt-ltb a (b + other) (omega arith) in
    let second : nat_lt b (a + size) ≡ true = lt-ltb b (a + size) (omega arith) in
    let here = rw (lt-ltb 0 size some, lt-ltb 0 other more, first, second) at apart in
    cc here

module _ (bytes : List ℕ) where
  -- segments whose pieces are apart from one that begins at the address
  none_there : (n a other : ℕ) → 0 < other → AllByRecursion (λ p. meets p.address p.length a other ≡ false) (image_before bytes n) → sum_by (at_address a) (segments_before bytes n) ≡ 0
  unfolding image_before segments_before
  none_there zero a other some apart = refl
  none_there (suc n) a other some apart = by_test (λ more. none_there n a other some more) (cases_Bool (has_memory bytes n))
    where
      by_test : (AllByRecursion (λ p. meets p.address p.length a other ≡ false) (image_before bytes n) → sum_by (at_address a) (segments_before bytes n) ≡ 0) → (has_memory bytes n ≡ true) ⊎ (has_memory bytes n ≡ false) → sum_by (at_address a) (segments_before bytes (suc n)) ≡ 0
      by_test more (inr e) = rw e (more (rw e at apart))
      by_test more (inl e) =
          let here = rw e at apart in
          let size = ltb-true 0 (segment_of bytes n).memsz (and_parts (is_load bytes n) (nat_lt 0 (segment_of bytes n).memsz) e).1 in
          let own = all_first_behind (λ p. meets p.address p.length a other ≡ false) (image_before bytes n) (own_piece bytes (segment_of bytes n)) _ here in
          let front = more (all_front (λ p. meets p.address p.length a other ≡ false) (image_before bytes n) (segment_pieces bytes (segment_of bytes n)) here) in
          let apart : nat_eq (segment_of bytes n).address a ≡ false = not_equal (segment_of bytes n).address a (apart_begins (segment_of bytes n).address (segment_of bytes n).memsz a other size some own) in
          let nought : at_address a (segment_of bytes n) ≡ 0 = rw apart refl in
          rw e (sum_by_push (at_address a) (segments_before bytes n) (segment_of bytes n) ∙ omega (arith, front, nought))
        where
          not_equal : (x y : ℕ) → (x ≡ y → ⊥) → nat_eq x y ≡ false
          not_equal x y apart = grind (arith, nat_tests)

  few_there : (n a : ℕ) → AreApart (image_before bytes n) → sum_by (at_address a) (segments_before bytes n) ≤ 1
  unfolding image_before segments_before
  few_there zero a apart = omega arith
  few_there (suc n) a apart = by_test (λ more. few_there n a more) (cases_Bool (has_memory bytes n))
    where
      by_test : (AreApart (image_before bytes n) → sum_by (at_address a) (segments_before bytes n) ≤ 1) → (has_memory bytes n ≡ true) ⊎ (has_memory bytes n ≡ false) → sum_by (at_address a) (segments_before bytes (suc n)) ≤ 1
      by_test more (inr e) = rw e (more (rw e at apart))
      by_test more (inl e) =
          let here = rw e at apart in
          let size = ltb-true 0 (segment_of bytes n).memsz (and_parts (is_load bytes n) (nat_lt 0 (segment_of bytes n).memsz) e).1 in
          let front = more (apart_front (image_before bytes n) (segment_pieces bytes (segment_of bytes n)) here) in
          let others = none_there n (segment_of bytes n).address (segment_of bytes n).memsz size (apart_from_next (image_before bytes n) (own_piece bytes (segment_of bytes n)) _ here) in
          rw e (push (segment_of bytes n) others front)
        where
          push : (s : Segment) → sum_by (at_address s.address) (segments_before bytes n) ≡ 0 → sum_by (at_address a) (segments_before bytes n) ≤ 1 → sum_by (at_address a) (segments_before bytes n ++ s ∷ []) ≤ 1
          push s none few = elim (cases_Bool (nat_eq s.address a)) [
            | inl same ↦
                let address = eqb-true s.address a same in
                let none' : sum_by (at_address a) (segments_before bytes n) ≡ 0 = subst (λ x. sum_by (at_address x) (segments_before bytes n) ≡ 0) address none in
                let one : at_address a s ≡ 1 = rw same refl in
                omega (arith, sum_by_push (at_address a) (segments_before bytes n) s, none', one)
            | inr apart ↦
                let nought : at_address a s ≡ 0 = rw apart refl in
                omega (arith, sum_by_push (at_address a) (segments_before bytes n) s, few, nought)
          ]

-- THE list of the segments by address
pub segments_are : (bytes : List ℕ) (xs : List Segment) → file_refusal_of bytes ≡ None → AreSegments bytes xs → xs ≡ by_address (segments_of bytes)
segments_are bytes xs accepted are =
    let few = λ (a : ℕ). few_there bytes (phnum_of bytes) a (pieces_are_apart bytes accepted) in
    let made = by_address_moves (segments_of bytes) in
    unique xs (by_address (segments_of bytes))
    (rising xs (sorted_from xs are.ascending) (λ a. omega (arith, few a, sum_by-IsPermutation (at_address a) (segments_of bytes) xs are.all)))
    (rising (by_address (segments_of bytes)) (by_address_sorted (segments_of bytes)) (λ a. omega (arith, few a, sum_by-IsPermutation (at_address a) (segments_of bytes) (by_address (segments_of bytes)) made)))
    (λ z has. Contains-permutation (segments_of bytes) (by_address (segments_of bytes)) z made (Contains-permutation xs (segments_of bytes) z (IsPermutation-sym (segments_of bytes) xs are.all) has))
    (λ z has. Contains-permutation (segments_of bytes) xs z are.all (Contains-permutation (by_address (segments_of bytes)) (segments_of bytes) z (IsPermutation-sym (segments_of bytes) (by_address (segments_of bytes)) made) has))
