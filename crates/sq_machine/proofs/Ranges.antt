-- A test of each byte of a range.
use Rattle.std.proofs.Common.{◌≡◌, ℕ, zero, suc, ◌+◌, ◌<◌, ◌^◌, Bool, true, false, ◌&&◌, ◌⊎◌, inl, inr, nat_le, nat_eq, refl, sym, ap, ◌∙◌, arith, add-one}
use Rattle.std.proofs.lemmas.Bool.{eqb-true, eqb-false, and_right, and_from, and_left}
use Rattle.sq_system.specs.World.{are_all, is_range}

-- one more byte
pub are_all-more : (test : ℕ → Bool) (x i : ℕ) → are_all test x i ≡ true → test (x + i) ≡ true → are_all test x (i + 1) ≡ true
are_all-more test x i e f = rw add-one (and_from (are_all test x i) (test (x + i)) e f)

earlier_or_last : (i n : ℕ) → i < suc n → (i < n) ⊎ (i ≡ n)
earlier_or_last i n h = tell (nat_eq i n) refl
  where
    tell : (b : Bool) → nat_eq i n ≡ b → (i < n) ⊎ (i ≡ n)
    tell true e = inr (eqb-true i n e)
    tell false e = let f : i ≡ n → ⊥ = eqb-false i n e in inl (omega arith)

pub are_all-fails : (test : ℕ → Bool) (x n i : ℕ) → i < n → test (x + i) ≡ false → are_all test x n ≡ false
are_all-fails test x zero i h e = absurd (omega arith)
are_all-fails test x (suc n) i h e = tell (earlier_or_last i n h) (λ g. are_all-fails test x n i g e)
  where
    tell : (i < n) ⊎ (i ≡ n) → (i < n → are_all test x n ≡ false) → are_all test x (suc n) ≡ false
    tell (inl g) before = and_left (are_all test x n) (test (x + n)) (before g)
    tell (inr s) before = and_right (are_all test x n) (test (x + n)) (ap (λ j. test (x + j)) (sym s) ∙ e)

pub is_range-fails : (test : ℕ → Bool) (x n i : ℕ) → i < n → test (x + i) ≡ false → is_range test x n ≡ false
is_range-fails test x n i h e = and_right (nat_le (x + n) (2 ^ 32)) (are_all test x n) (are_all-fails test x n i h e)
