-- Members in groups by their numbers.
use Rattle.std.proofs.Common.{◌≡◌, ◌≢◌, ◌↔◌, ℕ, zero, suc, ◌+◌, ◌<◌, ◌≤◌, Bool, true, true≢false, max, List, [], ◌∷◌, ◌++◌, map, drop, length, get_or, Contains, Option, Some, None, slice_get, slice_set, refl, sym, ap, ◌∙◌, subst, inl, inr, ⊎_elim, arith, add-one, drop-cons, append_assoc}
use Rattle.std.proofs.lemmas.Bool.{cases_Bool, cases_eq, eqb-true, eq-eqb, ne_eqb}
use Rattle.std.proofs.lemmas.List.{append-nil, length-map, get_or-map, map-append, map-set}
use Rattle.std.proofs.lemmas.List.FromFn.{length-map-range_with_len, get_or-map-range_with_len}
use Rattle.std.proofs.Math.ListN.{drop_of_length-le}
use Rattle.std.proofs.lemmas.Option.{slice_get_cases, slice_get-get_or, slice_get-map, slice_get_within, get_or_from_slice_get}
use Rattle.std.specs.Option.{option_map}
use Rattle.std.specs.Cmp.{IsEquivalence}
use Rattle.sq_finger.specs.Numbers.{numbers_of, AreNumbers}
use Rattle.sq_finger.specs.Groups.{group_count, is_number, members_of, groups_of, grown, with_member, IsIn, AreClasses}
use Rattle.sq_finger.proofs.Numbering.{numbers_are}

some_same : {X : Type 0} {x y : X} → Some x ≡ Some y → x ≡ y
some_same e = cc

same_lists : {X : Type 0} (d : X) (xs ys : List X) → length xs ≡ length ys → ((n : ℕ) → n < length xs → get_or xs n d ≡ get_or ys n d) → xs ≡ ys
same_lists d [] [] e h = refl
same_lists d [] (y ∷ ys) e h = absurd (omega arith)
same_lists d (x ∷ xs) [] e h = absurd (omega arith)
same_lists d (x ∷ xs) (y ∷ ys) e h = rw (h 0 (omega arith), same_lists d xs ys (omega arith) (λ n l. h (suc n) (omega arith))) refl

pub counted : (numbers : List (Option ℕ)) (i n : ℕ) → slice_get numbers i ≡ Some (Some n) → n + 1 ≤ group_count numbers
counted [] i n e = absurd (cc)
counted (None ∷ numbers) zero n e = absurd (cc)
counted (Some m ∷ numbers) zero n e = let s : m ≡ n = some_same (some_same e) in omega arith
counted (None ∷ numbers) (suc i) n e = counted numbers i n e
counted (Some m ∷ numbers) (suc i) n e = let h = counted numbers i n e in omega arith

pub count_below : (numbers : List (Option ℕ)) (b : ℕ) → ((i n : ℕ) → slice_get numbers i ≡ Some (Some n) → n < b) → group_count numbers ≤ b
count_below [] b h = omega arith
count_below (None ∷ numbers) b h = count_below numbers b (λ i. h (suc i))
count_below (Some m ∷ numbers) b h = let k = count_below numbers b (λ i. h (suc i)) in let l = h 0 m refl in omega arith

is_itself : (n : ℕ) → is_number n (Some n) ≡ true
is_itself n = eq-eqb n n refl

is_that : (n : ℕ) (number : Option ℕ) → is_number n number ≡ true → number ≡ Some n
is_that n None e = absurd (true≢false (sym e))
is_that n (Some m) e = ap Some (eqb-true m n e)

module _ {X : Type 0} where
  grown_there : (n : ℕ) (groups : List (List X)) → n < length groups → grown n groups ≡ groups
  grown_there n [] l = absurd (omega arith)
  grown_there zero (group ∷ groups) l = refl
  grown_there (suc n) (group ∷ groups) l = ap (λ gs. group ∷ gs) (grown_there n groups (omega arith))

  grown_more : (n : ℕ) (groups : List (List X)) → length groups ≤ n → grown n (groups ++ [] ∷ []) ≡ grown n groups
  grown_more zero [] l = refl
  grown_more zero (group ∷ groups) l = absurd (omega arith)
  grown_more (suc n) [] l = refl
  grown_more (suc n) (group ∷ groups) l = ap (λ gs. group ∷ gs) (grown_more n groups (omega arith))

  grown_below : (n : ℕ) (groups : List (List X)) → n < length (grown n groups)
  grown_below zero [] = omega arith
  grown_below zero (group ∷ groups) = omega arith
  grown_below (suc n) [] = let l = grown_below n [] in omega arith
  grown_below (suc n) (group ∷ groups) = let l = grown_below n groups in omega arith

  with_member_grown : (n : ℕ) (x : X) (groups : List (List X)) → with_member n x groups ≡ slice_set (grown n groups) n (get_or (grown n groups) n [] ++ x ∷ [])
  with_member_grown zero x [] = refl
  with_member_grown zero x (group ∷ groups) = refl
  with_member_grown (suc n) x [] = ap (λ gs. [] ∷ gs) (with_member_grown n x [])
  with_member_grown (suc n) x (group ∷ groups) = ap (λ gs. group ∷ gs) (with_member_grown n x groups)

  -- groups as they are kept
  module _ {V : Type 0} (items : V → List X) where
    pub kept_more : (n : ℕ) (kept : List V) (v : V) → items v ≡ [] → length kept ≤ n → grown n (map items (kept ++ v ∷ [])) ≡ grown n (map items kept)
    kept_more n kept v empty l =
        ap (grown n) (map-append items kept (v ∷ []) ∙ ap (λ g. map items kept ++ g ∷ []) empty)
        ∙ grown_more n (map items kept) (let e = length-map kept items in omega arith)

    pub kept_end : (n : ℕ) (kept : List V) → n < length kept → grown n (map items kept) ≡ map items kept
    kept_end n kept l = grown_there n (map items kept) (let e = length-map kept items in omega arith)

    pub kept_below : (n : ℕ) (kept : List V) (groups : List (List X)) → map items kept ≡ grown n groups → n < length kept
    kept_below n kept groups e = let l = grown_below n groups in let k = ap length e in let m = length-map kept items in omega arith

    pub kept_push : (n : ℕ) (x : X) (kept : List V) (v w : V) (groups : List (List X)) → map items kept ≡ grown n groups → v ≡ get_or kept n v → items w ≡ items v ++ x ∷ [] → map items (slice_set kept n w) ≡ with_member n x groups
    kept_push n x kept v w groups e at new =
        let l = kept_below n kept groups e in
        let here : get_or (grown n groups) n [] ≡ items v = ap (λ gs. get_or gs n []) (sym e) ∙ get_or-map items kept n v [] l ∙ ap items (sym at) in
        map-set items kept n w ∙ ap (λ gs. slice_set gs n (items w)) e ∙ ap (λ g. slice_set (grown n groups) n g) (new ∙ ap (λ g. g ++ x ∷ []) (sym here)) ∙ sym (with_member_grown n x groups)

  -- each member put into the group of its number, one after another
  abbrev pub gathered : List (List X) → List (Option ℕ) → List X → List (List X)
  gathered groups [] xs = groups
  gathered groups (number ∷ numbers) [] = groups
  gathered groups (None ∷ numbers) (x ∷ xs) = gathered groups numbers xs
  gathered groups (Some n ∷ numbers) (x ∷ xs) = gathered (with_member n x groups) numbers xs

  pub gathered_some : (groups : List (List X)) (numbers : List (Option ℕ)) (xs : List X) (i n : ℕ) (x : X) → i < length numbers → length numbers ≡ length xs → get_or numbers i None ≡ Some n → x ≡ get_or xs i x
      → gathered (with_member n x groups) (drop (i + 1) numbers) (drop (i + 1) xs) ≡ gathered groups (drop i numbers) (drop i xs)
  gathered_some groups numbers xs i n x l many at here =
      let a : drop i numbers ≡ Some n ∷ drop (i + 1) numbers = rw add-one (drop-cons numbers i None l ∙ ap (λ o. o ∷ drop (suc i) numbers) at) in
      let b : drop i xs ≡ x ∷ drop (i + 1) xs = rw add-one (drop-cons xs i x (omega arith) ∙ ap (λ y. y ∷ drop (suc i) xs) (sym here)) in
      rw (a, b) refl

  pub gathered_none : (groups : List (List X)) (numbers : List (Option ℕ)) (xs : List X) (i : ℕ) → i < length numbers → length numbers ≡ length xs → get_or numbers i None ≡ None
      → gathered groups (drop (i + 1) numbers) (drop (i + 1) xs) ≡ gathered groups (drop i numbers) (drop i xs)
  gathered_none groups numbers xs i l many at =
      let a : drop i numbers ≡ None ∷ drop (i + 1) numbers = rw add-one (drop-cons numbers i None l ∙ ap (λ o. o ∷ drop (suc i) numbers) at) in
      elim ((slice_get_cases xs i).1) [
        | inl y ↦
            let b : drop i xs ≡ y.0 ∷ drop (i + 1) xs = rw add-one (drop-cons xs i y.0 y.1 ∙ ap (λ z. z ∷ drop (suc i) xs) y.3) in
            rw (a, b) refl
        | inr past ↦ absurd (omega (arith, past.0))
      ]

  pub gathered_end : (groups : List (List X)) (numbers : List (Option ℕ)) (xs : List X) (i : ℕ) → length numbers ≤ i → gathered groups (drop i numbers) (drop i xs) ≡ groups
  gathered_end groups numbers xs i l = rw (drop_of_length-le numbers l) refl

  -- ---- the groups

  length_with : (n : ℕ) (x : X) (groups : List (List X)) → length (with_member n x groups) ≡ max (n + 1) (length groups)
  length_with zero x [] = omega arith
  length_with zero x (group ∷ groups) = omega arith
  length_with (suc n) x [] = let e = length_with n x [] in omega arith
  length_with (suc n) x (group ∷ groups) = let e = length_with n x groups in omega arith

  length_gathered : (groups : List (List X)) (numbers : List (Option ℕ)) (xs : List X) → length numbers ≡ length xs → length (gathered groups numbers xs) ≡ max (length groups) (group_count numbers)
  length_gathered groups [] xs e = omega arith
  length_gathered groups (number ∷ numbers) [] e = absurd (omega arith)
  length_gathered groups (None ∷ numbers) (x ∷ xs) e = length_gathered groups numbers xs (omega arith)
  length_gathered groups (Some n ∷ numbers) (x ∷ xs) e =
      let h = length_gathered (with_member n x groups) numbers xs (omega arith) in
      let k = length_with n x groups in omega arith

  get_same : (n : ℕ) (x : X) (groups : List (List X)) → get_or (with_member n x groups) n [] ≡ get_or groups n [] ++ x ∷ []
  get_same zero x [] = refl
  get_same zero x (group ∷ groups) = refl
  get_same (suc n) x [] = get_same n x []
  get_same (suc n) x (group ∷ groups) = get_same n x groups

  get_other : (m n : ℕ) (x : X) (groups : List (List X)) → m ≢ n → get_or (with_member m x groups) n [] ≡ get_or groups n []
  get_other zero zero x groups apart = absurd (apart refl)
  get_other zero (suc n) x [] apart = refl
  get_other zero (suc n) x (group ∷ groups) apart = refl
  get_other (suc m) zero x [] apart = refl
  get_other (suc m) zero x (group ∷ groups) apart = refl
  get_other (suc m) (suc n) x [] apart = get_other m n x [] (λ e. apart (ap suc e))
  get_other (suc m) (suc n) x (group ∷ groups) apart = get_other m n x groups (λ e. apart (ap suc e))

  members_same : (n : ℕ) (numbers : List (Option ℕ)) (x : X) (xs : List X) → members_of n (Some n ∷ numbers) (x ∷ xs) ≡ x ∷ members_of n numbers xs
  members_same n numbers x xs = rw (is_itself n) refl

  members_other : (m n : ℕ) (numbers : List (Option ℕ)) (x : X) (xs : List X) → m ≢ n → members_of n (Some m ∷ numbers) (x ∷ xs) ≡ members_of n numbers xs
  members_other m n numbers x xs apart = rw (ne_eqb m n apart) refl

  get_gathered : (groups : List (List X)) (numbers : List (Option ℕ)) (xs : List X) (n : ℕ) → length numbers ≡ length xs → get_or (gathered groups numbers xs) n [] ≡ get_or groups n [] ++ members_of n numbers xs
  get_gathered groups [] xs n e = sym (append-nil (get_or groups n []))
  get_gathered groups (number ∷ numbers) [] n e = absurd (omega arith)
  get_gathered groups (None ∷ numbers) (x ∷ xs) n e = get_gathered groups numbers xs n (omega arith)
  get_gathered groups (Some m ∷ numbers) (x ∷ xs) n e =
      let rest = get_gathered (with_member m x groups) numbers xs n (omega arith) in
      ⊎_elim
      (λ same. subst (λ k. get_or (gathered (with_member k x groups) numbers xs) n [] ≡ get_or groups n [] ++ members_of n (Some k ∷ numbers) (x ∷ xs)) (sym same)
      (subst (λ k. get_or (gathered (with_member k x groups) numbers xs) n [] ≡ get_or (with_member k x groups) n [] ++ members_of n numbers xs) same rest
      ∙ ap (λ g. g ++ members_of n numbers xs) (get_same n x groups)
      ∙ append_assoc (get_or groups n []) (x ∷ []) (members_of n numbers xs)
      ∙ ap (λ g. get_or groups n [] ++ g) (sym (members_same n numbers x xs))))
      (λ apart. rest ∙ ap (λ g. g ++ members_of n numbers xs) (get_other m n x groups apart) ∙ ap (λ g. get_or groups n [] ++ g) (sym (members_other m n numbers x xs apart)))
      (cases_eq m n)

  pub gathered_are : (numbers : List (Option ℕ)) (xs : List X) → length numbers ≡ length xs → gathered [] numbers xs ≡ groups_of numbers xs
  gathered_are numbers xs many =
      let count : length (gathered [] numbers xs) ≡ group_count numbers = let h = length_gathered [] numbers xs many in omega arith in
      same_lists [] (gathered [] numbers xs) (groups_of numbers xs)
      (count ∙ sym (length-map-range_with_len (λ n. members_of n numbers xs) 0 (group_count numbers)))
      (λ n l. get_gathered [] numbers xs n many ∙ sym (get_or-map-range_with_len (λ k. members_of k numbers xs) 0 (group_count numbers) n n [] (omega arith) (omega arith)))

  -- ---- what is in them

  abbrev pub Numbered : ℕ → List (Option ℕ) → List X → X → Type 0
  Numbered n numbers xs x = (i : ℕ) × ((slice_get numbers i ≡ Some (Some n)) × (slice_get xs i ≡ Some x))

  numbered_member : (n : ℕ) (numbers : List (Option ℕ)) (xs : List X) (x : X) → Numbered n numbers xs x → (j : ℕ) × (slice_get (members_of n numbers xs) j ≡ Some x)
  numbered_member n [] xs x (i, (e, f)) = absurd (cc)
  numbered_member n (number ∷ numbers) [] x (i, (e, f)) = absurd (cc)
  numbered_member n (number ∷ numbers) (y ∷ ys) x (zero, (e, f)) =
      let here : is_number n number ≡ true = rw (some_same e) (is_itself n) in
      (0, rw here f)
  numbered_member n (number ∷ numbers) (y ∷ ys) x (suc i, (e, f)) =
      let h = numbered_member n numbers ys x (i, (e, f)) in
      elim (cases_Bool (is_number n number)) [
        | inl t ↦ (suc h.0, rw t h.1)
        | inr u ↦ (h.0, rw u h.1)
      ]

  member_numbered : (n : ℕ) (numbers : List (Option ℕ)) (xs : List X) (x : X) (j : ℕ) → slice_get (members_of n numbers xs) j ≡ Some x → Numbered n numbers xs x
  member_numbered n [] xs x j e = absurd (cc)
  member_numbered n (number ∷ numbers) [] x j e = absurd (cc)
  member_numbered n (number ∷ numbers) (y ∷ ys) x j e =
      elim (cases_Bool (is_number n number)) [
        | inl t ↦ first j (rw t at e) (is_that n number t) (λ k. member_numbered n numbers ys x k)
        | inr u ↦ later (member_numbered n numbers ys x j (rw u at e))
      ]
    where
      later : Numbered n numbers ys x → Numbered n (number ∷ numbers) (y ∷ ys) x
      later h = (suc h.0, h.1)

      first : (k : ℕ) → slice_get (y ∷ members_of n numbers ys) k ≡ Some x → number ≡ Some n → ((k : ℕ) → slice_get (members_of n numbers ys) k ≡ Some x → Numbered n numbers ys x) → Numbered n (number ∷ numbers) (y ∷ ys) x
      first zero f t rest = (0, (ap Some t, f))
      first (suc k) f t rest = later (rest k f)

  pub contains_at : (xs : List X) (x : X) → Contains xs x → (i : ℕ) × (slice_get xs i ≡ Some x)
  contains_at xs x c = (c.0, slice_get-get_or xs c.0 x c.1 ∙ ap Some c.2)

  pub at_contains : (xs : List X) (i : ℕ) (x : X) → slice_get xs i ≡ Some x → Contains xs x
  at_contains xs i x e = (i, slice_get_within xs i x e, get_or_from_slice_get xs i x x e)

  pub in_numbered : (numbers : List (Option ℕ)) (xs : List X) (n : ℕ) (x : X) → IsIn (groups_of numbers xs) n x → Numbered n numbers xs x
  in_numbered numbers xs n x (group, (at, there)) =
      let c = length-map-range_with_len (λ k. members_of k numbers xs) 0 (group_count numbers) in
      let l : n < group_count numbers = let l = slice_get_within (groups_of numbers xs) n group at in omega arith in
      let e : group ≡ members_of n numbers xs = sym (get_or_from_slice_get (groups_of numbers xs) n group [] at) ∙ get_or-map-range_with_len (λ k. members_of k numbers xs) 0 (group_count numbers) n n [] l (omega arith) in
      let h = contains_at group x there in
      member_numbered n numbers xs x h.0 (subst (λ g. slice_get g h.0 ≡ Some x) e h.1)

  pub numbered_in : (numbers : List (Option ℕ)) (xs : List X) (n : ℕ) (x : X) → Numbered n numbers xs x → IsIn (groups_of numbers xs) n x
  numbered_in numbers xs n x h =
      let l : n < group_count numbers = let l = counted numbers h.0 n h.1.0 in omega arith in
      let c = length-map-range_with_len (λ k. members_of k numbers xs) 0 (group_count numbers) in
      let m = numbered_member n numbers xs x h in (
        members_of n numbers xs,
        (
          slice_get-get_or (groups_of numbers xs) n [] (omega arith) ∙ ap Some (get_or-map-range_with_len (λ k. members_of k numbers xs) 0 (group_count numbers) n n [] l (omega arith)),
          at_contains (members_of n numbers xs) m.0 x m.1,
        ),
      )

-- ---- classes

module _ {X K : Type 0} (eq : K → K → Bool) (laws : IsEquivalence eq) (exact : (k l : K) → eq k l ≡ true → k ≡ l) (key : X → K) (xs : List X) where
  abbrev pub keys : List (Option K)
  keys = map (λ x. Some (key x)) xs

  abbrev numbers : List (Option ℕ)
  numbers = numbers_of eq keys

  key_at : (i : ℕ) (x : X) → slice_get xs i ≡ Some x → slice_get keys i ≡ Some (Some (key x))
  key_at i x e = slice_get-map (λ y. Some (key y)) xs i ∙ ap (λ o. option_map (λ y. Some (key y)) o) e

  numbered : (i : ℕ) (x : X) → slice_get xs i ≡ Some x → (n : ℕ) × (slice_get numbers i ≡ Some (Some n))
  numbered i x e = by (slice_get numbers i) refl
    where
      are : AreNumbers eq keys numbers
      are = numbers_are eq laws keys

      by : (o : Option (Option ℕ)) → slice_get numbers i ≡ o → (n : ℕ) × (slice_get numbers i ≡ Some (Some n))
      by None f = absurd (let l = slice_get_within keys i (Some (key x)) (key_at i x e) in let m = are.many in let p = slice_get-get_or numbers i None (omega arith) in cc)
      by (Some None) f = absurd (let p = (are.none i).0 f in let k = key_at i x e in cc)
      by (Some (Some n)) f = (n, f)

  pub classes_are : AreClasses key (λ x. Contains xs x) (groups_of numbers xs)
  classes_are = record {
    every = λ x c.
        let at = contains_at xs x c in
        let n = numbered at.0 x at.1 in
        (n.0, numbered_in numbers xs n.0 x (at.0, (n.1, at.1)));
    known = λ n x h. let at = in_numbered numbers xs n x h in at_contains xs at.0 x at.1.1;
    same = λ m n x y h k.
        let p = in_numbered numbers xs m x h in
        let q = in_numbered numbers xs n y k in
        let s = (numbers_are eq laws keys).same p.0 q.0 m n (key x) (key y) (key_at p.0 x p.1.1) (key_at q.0 y q.1.1) p.1.0 q.1.0 in
        (λ e. exact (key x) (key y) (s.0 e), λ e. s.1 (subst (λ l. eq (key x) l ≡ true) e (laws.refl (key x))));
  }

-- the same of other words for the members
pub classes_of_members : {X K : Type 0} (key : X → K) (IsListed IsMember : X → Type 0) (groups : List (List X)) → ((x : X) → IsListed x ↔ IsMember x) → AreClasses key IsListed groups → AreClasses key IsMember groups
classes_of_members key IsListed IsMember groups same are = record {
  every = λ x member. are.every x ((same x).1 member);
  known = λ n x there. (same x).0 (are.known n x there);
  same = are.same;
}
