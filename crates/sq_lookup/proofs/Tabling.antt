-- Tables of values by names, and the names in them.
use Rattle.std.proofs.Common.{◌≡◌, ◌≢◌, ℕ, zero, suc, ◌+◌, ◌<◌, Bool, true, false, ◌||◌, nat_eq, List, [], ◌∷◌, ◌++◌, length, set, Option, None, Some, is_some, inl, inr, refl, sym, ap, ◌∙◌, arith}
use Rattle.std.proofs.lemmas.Bool.{cases_Bool, eq-eqb, ne_eqb, eqb-true, eqb-false}
use Rattle.std.specs.Map.{update}
use Rattle.sq_lookup.specs.Names.{is_listed, Adds}
use Rattle.sq_lookup.specs.Tables.{value_at, names_from}

or_true : (b : Bool) → true ≡ (b || true)
or_true true = refl
or_true false = refl

or_false : (b : Bool) → b ≡ (b || false)
or_false true = refl
or_false false = refl

module _ {T : Type 0} where
  -- A TABLE GROWS

  pub value_at-grown : (table : List (Option T)) (name : ℕ) → value_at (table ++ None ∷ []) name ≡ value_at table name
  value_at-grown [] zero = refl
  value_at-grown [] (suc name) = refl
  value_at-grown (x ∷ table) zero = refl
  value_at-grown (x ∷ table) (suc name) = value_at-grown table name

  set_here : (table : List (Option T)) (name : ℕ) (o : Option T) → name < length table → value_at (set table name o) name ≡ o
  set_here [] name o within = absurd (omega (arith, within))
  set_here (x ∷ table) zero o within = refl
  set_here (x ∷ table) (suc name) o within = set_here table name o (omega (arith, within))

  set_apart : (table : List (Option T)) (name n : ℕ) (o : Option T) → n ≢ name → value_at (set table name o) n ≡ value_at table n
  set_apart [] name n o apart = refl
  set_apart (x ∷ table) zero zero o apart = absurd (apart refl)
  set_apart (x ∷ table) zero (suc n) o apart = refl
  set_apart (x ∷ table) (suc name) zero o apart = refl
  set_apart (x ∷ table) (suc name) (suc n) o apart = set_apart table name n o (λ same. apart (ap suc same))

  pub value_at-put : (old table new : List (Option T)) (name : ℕ) (number : T) → new ≡ set table name (Some number) → name < length table → ((n : ℕ) → value_at table n ≡ value_at old n) → (n : ℕ) → value_at new n ≡ update nat_eq (value_at old) name (Some number) n
  value_at-put old table new name number is within same n =
      ap (λ t. value_at t n) is
      ∙ elim (cases_Bool (nat_eq name n)) [
        | inl here ↦ let e : n ≡ name = sym (eqb-true name n here) in rw here (ap (λ k. value_at (set table name (Some number)) k) e ∙ set_here table name (Some number) within)
        | inr apart ↦ rw apart (set_apart table name n (Some number) (λ e. eqb-false name n apart (sym e)) ∙ same n)
      ]

  -- THE NAMES IN A TABLE

  none_before : (from n : ℕ) (table : List (Option T)) → n < from → is_listed (names_from from table) n ≡ false
  none_before from n [] below = refl
  none_before from n (None ∷ table) below = none_before (suc from) n table (omega (arith, below))
  none_before from n (Some x ∷ table) below =
      let apart : nat_eq n from ≡ false = ne_eqb n from (λ same. omega (arith, same, below)) in
      rw apart (none_before (suc from) n table (omega (arith, below)))

  listed_from : (from i n : ℕ) (table : List (Option T)) → n ≡ from + i → is_listed (names_from from table) n ≡ is_some (value_at table i)
  listed_from from i n [] e = refl
  listed_from from zero n (None ∷ table) e = none_before (suc from) n table (omega (arith, e))
  listed_from from zero n (Some x ∷ table) e = let same : nat_eq n from ≡ true = eq-eqb n from (omega (arith, e)) in rw same refl
  listed_from from (suc i) n (None ∷ table) e = listed_from (suc from) i n table (omega (arith, e))
  listed_from from (suc i) n (Some x ∷ table) e =
      let apart : nat_eq n from ≡ false = ne_eqb n from (λ same. omega (arith, same, e)) in
      rw apart (listed_from (suc from) i n table (omega (arith, e)))

  pub listed_is : (table : List (Option T)) (n : ℕ) → is_listed (names_from 0 table) n ≡ is_some (value_at table n)
  listed_is table n = listed_from 0 n n table (omega arith)

  pub one_added : (old new : List (Option T)) (name : ℕ) (number : T) → ((n : ℕ) → value_at new n ≡ update nat_eq (value_at old) name (Some number) n) → Adds (name ∷ []) (names_from 0 old) (names_from 0 new)
  one_added old new name number is = record { each = each }
    where
      each : (n : ℕ) → is_listed (names_from 0 new) n ≡ (is_listed (names_from 0 old) n || is_listed (name ∷ []) n)
      each n =
          listed_is new n
          ∙ elim (cases_Bool (nat_eq name n)) [
            | inl here ↦
                let here' : nat_eq n name ≡ true = eq-eqb n name (sym (eqb-true name n here)) in
                let value : value_at new n ≡ Some number = is n ∙ rw here refl in
                rw here' (ap is_some value ∙ or_true (is_listed (names_from 0 old) n))
            | inr apart ↦
                let apart' : nat_eq n name ≡ false = ne_eqb n name (λ same. eqb-false name n apart (sym same)) in
                let value : value_at new n ≡ value_at old n = is n ∙ rw apart refl in
                rw apart' (ap is_some value ∙ sym (listed_is old n) ∙ or_false (is_listed (names_from 0 old) n))
          ]
