-- Flags of numbers, and the numbers whose flags are set.
use Rattle.std.proofs.Common.{◌≡◌, ℕ, zero, suc, ◌+◌, ◌<◌, Bool, true, false, ◌||◌, not, nat_eq, List, [], ◌∷◌, length, set, inl, inr, if◌then◌else◌, refl, sym, ap, ◌∙◌, arith}
use Rattle.std.proofs.lemmas.Bool.{cases_Bool, eq-eqb, ne_eqb, eqb-true, eqb-false}
use Rattle.std.proofs.lemmas.List.{get_or-set_same, get_or-set_other}
use Rattle.std.proofs.Math.Bool.{or-true, or-false}
use Rattle.std.specs.List.{AllByRecursion, IsDistinct}
use Rattle.sq_reach.specs.Marks.{is_marked, flag_at, numbers_from}

-- the numbers from one on are apart from each below it
all_above : (n from : ℕ) (flags : List Bool) → n < from → AllByRecursion (λ m. nat_eq n m ≡ false) (numbers_from from flags)
all_above n from [] below = tt
all_above n from (false ∷ flags) below = all_above n (suc from) flags (omega (arith, below))
all_above n from (true ∷ flags) below = (ne_eqb n from (λ same. omega (arith, same, below)), all_above n (suc from) flags (omega (arith, below)))

none_apart : (n : ℕ) (numbers : List ℕ) → AllByRecursion (λ m. nat_eq n m ≡ false) numbers → is_marked numbers n ≡ false
none_apart n [] apart = refl
none_apart n (m ∷ numbers) apart = rw (apart.0) (none_apart n numbers apart.1)

distinct_from : (from : ℕ) (flags : List Bool) → IsDistinct nat_eq (numbers_from from flags)
unfolding IsDistinct
distinct_from from [] = tt
distinct_from from (false ∷ flags) = distinct_from (suc from) flags
distinct_from from (true ∷ flags) = (all_above from (suc from) flags (omega arith), distinct_from (suc from) flags)

pub numbers_distinct : (flags : List Bool) → IsDistinct nat_eq (numbers_from 0 flags)
numbers_distinct flags = distinct_from 0 flags

marked_from : (from i n : ℕ) (flags : List Bool) → n ≡ from + i → is_marked (numbers_from from flags) n ≡ flag_at flags i
marked_from from i n [] e = refl
marked_from from zero n (false ∷ flags) e = none_apart n (numbers_from (suc from) flags) (all_above n (suc from) flags (omega (arith, e)))
marked_from from zero n (true ∷ flags) e = let same : nat_eq n from ≡ true = eq-eqb n from (omega (arith, e)) in rw same refl
marked_from from (suc i) n (false ∷ flags) e = marked_from (suc from) i n flags (omega (arith, e))
marked_from from (suc i) n (true ∷ flags) e =
    let apart : nat_eq n from ≡ false = ne_eqb n from (λ same. omega (arith, same, e)) in
    rw apart (marked_from (suc from) i n flags (omega (arith, e)))

-- just the numbers whose flags are set are marked
pub marked_is : (flags : List Bool) {marks : List ℕ} → numbers_from 0 flags ≡ marks → (n : ℕ) → is_marked marks n ≡ flag_at flags n
marked_is flags is n = ap (λ ns. is_marked ns n) (sym is) ∙ marked_from 0 n n flags (omega arith)

alike_from : (from : ℕ) (flags others : List Bool) → ((n : ℕ) → flag_at flags n ≡ flag_at others n) → numbers_from from flags ≡ numbers_from from others
alike_from from [] [] same = refl
alike_from from [] (false ∷ others) same = alike_from (suc from) [] others (λ n. same (suc n))
alike_from from [] (true ∷ others) same = absurd (cc (same 0))
alike_from from (false ∷ flags) [] same = alike_from (suc from) flags [] (λ n. same (suc n))
alike_from from (true ∷ flags) [] same = absurd (cc (same 0))
alike_from from (false ∷ flags) (false ∷ others) same = alike_from (suc from) flags others (λ n. same (suc n))
alike_from from (false ∷ flags) (true ∷ others) same = absurd (cc (same 0))
alike_from from (true ∷ flags) (false ∷ others) same = absurd (cc (same 0))
alike_from from (true ∷ flags) (true ∷ others) same = ap (λ ns. from ∷ ns) (alike_from (suc from) flags others (λ n. same (suc n)))

count_from : (from i : ℕ) (flags : List Bool) → i < length flags → length (numbers_from from (set flags i true)) ≡ length (numbers_from from flags) + (if not (flag_at flags i) then 1 else 0)
count_from from i [] within = absurd (omega (arith, within))
count_from from zero (false ∷ flags) within = omega arith
count_from from zero (true ∷ flags) within = omega arith
count_from from (suc i) (false ∷ flags) within = count_from (suc from) i flags (omega (arith, within))
count_from from (suc i) (true ∷ flags) within = omega (arith, count_from (suc from) i flags (omega (arith, within)))

-- one more flag is set, where there is room
module _ (old flags : List Bool) {marks : List ℕ} (is : numbers_from 0 old ≡ marks) (number : ℕ) (within : number < length flags) (same : (n : ℕ) → flag_at flags n ≡ flag_at old n) where
  pub members_more : (n : ℕ) → is_marked (numbers_from 0 (set flags number true)) n ≡ (is_marked marks n || nat_eq n number)
  members_more n =
      marked_is (set flags number true) refl n
      ∙ elim (cases_Bool (nat_eq n number)) [
        | inl here ↦
            let set_here : flag_at (set flags number true) n ≡ true = rw (eqb-true n number here) (get_or-set_same flags number true false within) in
            rw here (set_here ∙ sym (or-true (is_marked marks n)))
        | inr apart ↦
            rw apart (get_or-set_other flags number n true false (eqb-false n number apart) ∙ same n ∙ sym (marked_is old is n) ∙ sym (or-false (is_marked marks n)))
      ]

  pub count_more : length (numbers_from 0 (set flags number true)) ≡ length marks + (if not (is_marked marks number) then 1 else 0)
  count_more =
      count_from 0 number flags within
      ∙ ap (λ ns. length ns + (if not (flag_at flags number) then 1 else 0)) (alike_from 0 flags old same ∙ is)
      ∙ ap (λ b. length marks + (if not b then 1 else 0)) (same number ∙ sym (marked_is old is number))
