-- Finer keys have greater numbers.
use Rattle.std.proofs.Common.{◌≡◌, ℕ, zero, suc, ◌+◌, ◌<◌, ◌≤◌, Bool, true, false, true≢false, List, [], ◌∷◌, ◌++◌, map, length, length-append, Option, Some, None, slice_get, refl, sym, ap, ◌∙◌, subst, inl, inr, arith}
use Rattle.std.proofs.lemmas.Bool.{cases_Bool}
use Rattle.std.specs.List.{list_any, position_or_len}
use Rattle.indexmap.specs.IndexSet.{insert_key}
use Rattle.sq_finger.specs.Exact.{IsExact}
use Rattle.sq_finger.specs.Numbers.{numbers_from}

-- ---- the first element that passes

module _ {X : Type 0} (p : X → Bool) where
  any_true : (x : X) (xs : List X) → p x ≡ true → list_any p (x ∷ xs) ≡ true
  any_true x xs e = rw e refl

  any_false : (x : X) (xs : List X) → p x ≡ false → list_any p (x ∷ xs) ≡ list_any p xs
  any_false x xs e = rw e refl

  position_true : (x : X) (xs : List X) → p x ≡ true → position_or_len p (x ∷ xs) ≡ 0
  position_true x xs e = rw e refl

  position_false : (x : X) (xs : List X) → p x ≡ false → position_or_len p (x ∷ xs) ≡ 1 + position_or_len p xs
  position_false x xs e = rw e refl

  any_ahead : (xs ys : List X) → list_any p xs ≡ true → list_any p (xs ++ ys) ≡ true
  any_ahead [] ys h = absurd (true≢false (sym h))
  any_ahead (x ∷ xs) ys h =
      elim (cases_Bool (p x)) [
        | inl e ↦ any_true x (xs ++ ys) e
        | inr e ↦ any_false x (xs ++ ys) e ∙ any_ahead xs ys (sym (any_false x xs e) ∙ h)
      ]

  any_behind : (xs ys : List X) → list_any p xs ≡ false → list_any p (xs ++ ys) ≡ list_any p ys
  any_behind [] ys h = refl
  any_behind (x ∷ xs) ys h =
      elim (cases_Bool (p x)) [
        | inl e ↦ absurd (true≢false (sym (any_true x xs e) ∙ h))
        | inr e ↦ any_false x (xs ++ ys) e ∙ any_behind xs ys (sym (any_false x xs e) ∙ h)
      ]

  any_last : (xs : List X) (y : X) → p y ≡ true → list_any p (xs ++ y ∷ []) ≡ true
  any_last [] y e = any_true y [] e
  any_last (x ∷ xs) y e =
      elim (cases_Bool (p x)) [
        | inl t ↦ any_true x (xs ++ y ∷ []) t
        | inr f ↦ any_false x (xs ++ y ∷ []) f ∙ any_last xs y e
      ]

  position_ahead : (xs ys : List X) → list_any p xs ≡ true → position_or_len p (xs ++ ys) ≡ position_or_len p xs
  position_ahead [] ys h = absurd (true≢false (sym h))
  position_ahead (x ∷ xs) ys h =
      elim (cases_Bool (p x)) [
        | inl e ↦ position_true x (xs ++ ys) e ∙ sym (position_true x xs e)
        | inr e ↦ position_false x (xs ++ ys) e ∙ ap (λ n. 1 + n) (position_ahead xs ys (sym (any_false x xs e) ∙ h)) ∙ sym (position_false x xs e)
      ]

  position_behind : (xs ys : List X) → list_any p xs ≡ false → position_or_len p (xs ++ ys) ≡ length xs + position_or_len p ys
  position_behind [] ys h = omega arith
  position_behind (x ∷ xs) ys h =
      elim (cases_Bool (p x)) [
        | inl e ↦ absurd (true≢false (sym (any_true x xs e) ∙ h))
        | inr e ↦
            let a = position_false x (xs ++ ys) e in
            let b = position_behind xs ys (sym (any_false x xs e) ∙ h) in
            omega arith
      ]

  -- one that isn't there is behind them all
  position_past : (xs : List X) → list_any p xs ≡ false → position_or_len p xs ≡ length xs
  position_past [] h = refl
  position_past (x ∷ xs) h =
      elim (cases_Bool (p x)) [
        | inl e ↦ absurd (true≢false (sym (any_true x xs e) ∙ h))
        | inr e ↦ let a = position_false x xs e in let b = position_past xs (sym (any_false x xs e) ∙ h) in omega arith
      ]

  position_grows : (xs ys : List X) → position_or_len p xs ≤ position_or_len p (xs ++ ys)
  position_grows xs ys =
      elim (cases_Bool (list_any p xs)) [
        | inl e ↦ let a = position_ahead xs ys e in omega arith
        | inr e ↦ let a = position_behind xs ys e in let b = position_past xs e in omega arith
      ]

-- ---- weights of numbers

abbrev pub value : Option ℕ → ℕ
value None = 0
value (Some n) = n + 1

abbrev pub weight : List (Option ℕ) → ℕ
weight [] = 0
weight (number ∷ numbers) = 1 + value number + weight numbers

-- so many numbers below n weigh no more
abbrev pub full : ℕ → ℕ → ℕ
full n zero = 0
full n (suc many) = 1 + n + full n many

pub weight_below : (n : ℕ) (numbers : List (Option ℕ)) → ((i m : ℕ) → slice_get numbers i ≡ Some (Some m) → m < n) → weight numbers ≤ full n (length numbers)
weight_below n [] below = omega arith
weight_below n (None ∷ numbers) below = let h = weight_below n numbers (λ i m e. below (suc i) m e) in omega arith
weight_below n (Some m ∷ numbers) below = let l = below 0 m refl in let h = weight_below n numbers (λ i k e. below (suc i) k e) in omega arith

-- the new numbers weigh at least as much as the old ones, and only where they are the old ones not more
pub record Grows (olds news : List (Option ℕ)) : Type 0 where
  pub more : weight olds ≤ weight news
  pub still : weight olds ≡ weight news → olds ≡ news

pub grows_from_none : (news : List (Option ℕ)) → Grows [] news
grows_from_none [] = record { more = omega arith; still = λ e. refl }
grows_from_none (n ∷ news) = record { more = omega arith; still = λ e. absurd (omega arith) }

-- ---- numbers of finer keys

module _ {X K : Type 0} (eq : K → K → Bool) (exactly : IsExact eq) (f g : X → K) (finer : (x y : X) → g x ≡ g y → f x ≡ f y) where
  is_finer : (x y : X) → eq (g x) (g y) ≡ true → eq (f x) (f y) ≡ true
  is_finer x y e = (exactly (f x) (f y)).1 (finer x y ((exactly (g x) (g y)).0 e))

  record Covers (olds news : List K) : Type 0 where
    few : length olds ≤ length news
    less : (x : X) → position_or_len (eq (f x)) olds ≤ position_or_len (eq (g x)) news
    known : (x : X) → list_any (eq (g x)) news ≡ true → list_any (eq (f x)) olds ≡ true

  known_last : (olds : List K) (x y : X) → list_any (eq (f y)) olds ≡ true → eq (g x) (g y) ≡ true → list_any (eq (f x)) olds ≡ true
  known_last olds x y there e = subst (λ k. list_any (eq k) olds ≡ true) (sym (finer x y ((exactly (g x) (g y)).0 e))) there

  -- one of the last
  last_true : (news : List K) (x y : X) → list_any (eq (g x)) news ≡ false → list_any (eq (g x)) (news ++ g y ∷ []) ≡ true → eq (g x) (g y) ≡ true
  last_true news x y absent e =
      elim (cases_Bool (eq (g x) (g y))) [
        | inl t ↦ t
        | inr t ↦ absurd (true≢false (sym e ∙ any_behind (eq (g x)) news (g y ∷ []) absent ∙ any_false (eq (g x)) (g y) [] t))
      ]

  covers_new : (olds news : List K) (y : X) → Covers olds news → list_any (eq (f y)) olds ≡ true → Covers olds (news ++ g y ∷ [])
  covers_new olds news y covers there = record {
    few = let l = covers.few in let m = length-append news (g y ∷ []) in omega arith;
    less = λ x. let l = covers.less x in let m = position_grows (eq (g x)) news (g y ∷ []) in omega arith;
    known = λ x e. elim (cases_Bool (list_any (eq (g x)) news)) [
      | inl a ↦ covers.known x a
      | inr a ↦ known_last olds x y there (last_true news x y a e)
    ];
  }

  last_less : (x y : X) → position_or_len (eq (f x)) (f y ∷ []) ≤ position_or_len (eq (g x)) (g y ∷ [])
  last_less x y =
      elim (cases_Bool (eq (g x) (g y))) [
        | inl e ↦ let a = position_true (eq (f x)) (f y) [] (is_finer x y e) in omega arith
        | inr e ↦
            let a = position_false (eq (g x)) (g y) [] e in
            elim (cases_Bool (eq (f x) (f y))) [
              | inl t ↦ let b = position_true (eq (f x)) (f y) [] t in omega arith
              | inr t ↦ let b = position_false (eq (f x)) (f y) [] t in omega arith
            ]
      ]

  covers_both : (olds news : List K) (y : X) → Covers olds news → list_any (eq (g y)) news ≡ false → Covers (olds ++ f y ∷ []) (news ++ g y ∷ [])
  covers_both olds news y covers absent = record {
    few = let l = covers.few in let m = length-append news (g y ∷ []) in let n = length-append olds (f y ∷ []) in omega arith;
    less = λ x. elim (cases_Bool (list_any (eq (f x)) olds)) [
      | inl a ↦
          let k = position_ahead (eq (f x)) olds (f y ∷ []) a in
          let l = covers.less x in
          let m = position_grows (eq (g x)) news (g y ∷ []) in omega arith
      | inr a ↦ elim (cases_Bool (list_any (eq (g x)) news)) [
        | inl b ↦ absurd (true≢false (sym (covers.known x b) ∙ a))
        | inr b ↦
            let k = position_behind (eq (f x)) olds (f y ∷ []) a in
            let l = position_behind (eq (g x)) news (g y ∷ []) b in
            let m = covers.few in
            let n = last_less x y in omega arith
      ]
    ];
    known = λ x e. elim (cases_Bool (list_any (eq (g x)) news)) [
      | inl a ↦ any_ahead (eq (f x)) olds (f y ∷ []) (covers.known x a)
      | inr a ↦ any_last (eq (f x)) olds (f y) (is_finer x y (last_true news x y a e))
    ];
  }

  covers_more : (olds news : List K) (y : X) → Covers olds news → Covers (insert_key eq olds (f y)) (insert_key eq news (g y))
  covers_more olds news y covers =
      elim (cases_Bool (list_any (eq (g y)) news)) [
        | inl a ↦ let b = covers.known y a in rw (a, b) covers
        | inr a ↦ elim (cases_Bool (list_any (eq (f y)) olds)) [
          | inl b ↦ rw (a, b) (covers_new olds news y covers b)
          | inr b ↦ rw (a, b) (covers_both olds news y covers a)
        ]
      ]

  grows_from : (olds news : List K) → Covers olds news → (xs : List X) → Grows (numbers_from eq olds (map (λ x. Some (f x)) xs)) (numbers_from eq news (map (λ x. Some (g x)) xs))
  grows_from olds news covers [] = record { more = omega arith; still = λ e. refl }
  grows_from olds news covers (x ∷ xs) =
      let l = covers.less x in
      let h = grows_from (insert_key eq olds (f x)) (insert_key eq news (g x)) (covers_more olds news x covers) xs in
      let more = h.more in
      record {
        more = omega arith;
        still = λ e.
            let here : position_or_len (eq (f x)) olds ≡ position_or_len (eq (g x)) news = omega arith in
            let rest = h.still (omega arith) in
            rw (here, rest) refl;
      }

  pub grows : (xs : List X) → Grows (numbers_from eq [] (map (λ x. Some (f x)) xs)) (numbers_from eq [] (map (λ x. Some (g x)) xs))
  grows xs = grows_from [] [] (record { few = omega arith; less = λ x. omega arith; known = λ x e. absurd (true≢false (sym e)) }) xs
