-- The low bits of a signed number give it back, and two with the same low bits are equal.
use Rattle.std.proofs.Common.{◌≡◌, ℕ, suc, ℤ, pos, negsuc, ◌+◌, ◌-◌, ◌*◌, ◌%◌, ◌^◌, ◌<◌, ◌≤◌, arith, sym, ◌∙◌, ap}
use Rattle.std.proofs.lemmas.Int.{ints}
use Rattle.std.proofs.lemmas.Bool.Decides.{nat_tests}
use Rattle.std.proofs.lemmas.Nat.{pow-add, pow_pos, mod_low}
use Rattle.std.proofs.Math.Nat.{mod-eq_of_lt}
use Rattle.sq_isa.specs.Fields.{sign_extend}
use Rattle.sq_isa.specs.Ranges.{IsSigned, IsEven}
use Rattle.sq_isa.specs.Words.{unsigned}

-- n bits are twice as many numbers as n - 1 bits
doubled : (n : ℕ) → 1 ≤ n → 2 ^ n ≡ 2 * 2 ^ (n - 1)
doubled n some =
    let split : n ≡ (n - 1) + 1 = omega arith in
    ap (λ k. 2 ^ k) split ∙ (pow-add 2 (n - 1) 1 ∙ omega arith)

-- the low n bits of a negative number
low_negative : (n k : ℕ) → n ≤ 32 → suc k ≤ 2 ^ n → (2 ^ 32 - suc k) % 2 ^ n ≡ 2 ^ n - suc k
low_negative n k few small =
    let sum : (32 - n) + n ≡ 32 = omega arith in
    let whole : 2 ^ (32 - n) * 2 ^ n ≡ 2 ^ 32 = sym (pow-add 2 (32 - n) n) ∙ ap (λ m. 2 ^ m) sum in
    let some = pow_pos (32 - n) in
    let high : ℕ = 2 ^ (32 - n) - 1 in
    let next : high + 1 ≡ 2 ^ (32 - n) = omega arith in
    let product : (high + 1) * 2 ^ n ≡ 2 ^ (32 - n) * 2 ^ n = ap (λ m. m * 2 ^ n) next in
    let rest : 2 ^ 32 - suc k ≡ high * 2 ^ n + (2 ^ n - suc k) = omega arith in
    let low : 2 ^ n - suc k < 2 ^ n = omega arith in
    ap (λ m. m % 2 ^ n) rest ∙ mod_low high n (2 ^ n - suc k) low

pub extended : (n : ℕ) (z : ℤ) → 1 ≤ n → n ≤ 32 → IsSigned n z → sign_extend n (unsigned z % 2 ^ n) ≡ z
extended n (pos k) some few h =
    let twice = doubled n some in
    let below : k < 2 ^ n = omega (arith, ints) in
    let low : k % 2 ^ n ≡ k = mod-eq_of_lt below in
    grind (arith, ints, nat_tests)
extended n (negsuc k) some few h =
    let twice = doubled n some in
    let below : suc k ≤ 2 ^ (n - 1) = omega (arith, ints) in
    let low = low_negative n k few (omega arith) in
    grind (arith, ints, nat_tests)

pub same_bits : (n a b : ℕ) → 1 ≤ n → a < 2 ^ n → b < 2 ^ n → sign_extend n a ≡ sign_extend n b → a ≡ b
same_bits n a b some p q e =
    let twice = doubled n some in
    grind (arith, ints, nat_tests)

-- the range of n bits
pub extended_fits : (n v : ℕ) → 1 ≤ n → v < 2 ^ n → IsSigned n (sign_extend n v)
extended_fits n v some small =
    let twice = doubled n some in
    (grind (arith, ints, nat_tests), grind (arith, ints, nat_tests))

pub extended_even : (n v : ℕ) → 1 ≤ n → 2 ^ n % 2 ≡ 0 → v < 2 ^ n → v % 2 ≡ 0 → IsEven (sign_extend n v)
extended_even n v some even small h = grind (arith, ints, nat_tests)
