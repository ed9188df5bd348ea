-- Ranges that have no byte in common.
use Rattle.std.proofs.Common.{◌≡◌, ℕ, ◌+◌, ◌<◌, ◌≤◌, false, ◌⊎◌, inl, inr, ⊎_elim, arith}
use Rattle.std.proofs.lemmas.Bool.{cases_lt}
use Rattle.std.proofs.lemmas.Bool.Decides.{nat_tests}
use Rattle.sq_elf.specs.Ranges.{meets}

-- no byte in common, said by the ends
pub no_common : (a n b m : ℕ) → meets a n b m ≡ false → 0 < n → 0 < m → a < b + m → b < a + n → ⊥
no_common a n b m apart some other low high = grind (arith, nat_tests)

pub apart_from : (a n b m : ℕ) → (0 < n → 0 < m → a < b + m → b < a + n → ⊥) → meets a n b m ≡ false
apart_from a n b m none = grind (arith, nat_tests)

pub apart_back : (a n b m : ℕ) → meets a n b m ≡ false → meets b m a n ≡ false
apart_back a n b m apart = apart_from b m a n (λ some other low high. no_common a n b m apart other some high low)

pub one_behind : (a n b m : ℕ) → meets a n b m ≡ false → 0 < n → 0 < m → (a + n ≤ b) ⊎ (b + m ≤ a)
one_behind a n b m apart some other =
    ⊎_elim (λ (low : a < b + m). ⊎_elim (λ (high : b < a + n). absurd (no_common a n b m apart some other low high)) (λ (above : a + n ≤ b). inl above) (cases_lt b (a + n))) (λ (below : b + m ≤ a). inr below) (cases_lt a (b + m))

pub behind_is_apart : (a n b m : ℕ) → a + n ≤ b → meets a n b m ≡ false
behind_is_apart a n b m le = apart_from a n b m (λ some other low high. omega arith)

-- the range is empty, or lies in the other
pub record IsWithin (a n b m : ℕ) : Type 0 where
  pub low : 0 < n → b ≤ a
  pub high : 0 < n → a + n ≤ b + m

pub apart_within : (a n b m c k d j : ℕ) → meets b m d j ≡ false → IsWithin a n b m → IsWithin c k d j → meets a n c k ≡ false
apart_within a n b m c k d j apart first second =
    apart_from a n c k
    (λ some other low high.
    let first_low = first.low some in
    let first_high = first.high some in
    let second_low = second.low other in
    let second_high = second.high other in
    no_common b m d j apart (omega arith) (omega arith) (omega arith) (omega arith))
