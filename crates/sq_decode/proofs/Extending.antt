-- A shift to the top of a word and back as a signed number extends the sign.
use Rattle.std.proofs.Common.{◌≡◌, ℕ, suc, pos, negsuc, ◌+◌, ◌-◌, ◌*◌, ◌/◌, ◌^◌, ◌<◌, ◌≤◌, ◌-ℤ◌, true, false, inl, inr, arith, sym, ◌∙◌, refl, ap, w32, to_z, ltb}
use Rattle.std.specs.Int.{int_shr}
use Rattle.std.proofs.lemmas.Int.{ints, to_z_pos}
use Rattle.std.proofs.lemmas.Bool.{cases_lt, lt-ltb, le-ltb, cond-true, cond-false}
use Rattle.std.proofs.lemmas.Nat.{shl-shr, shr_high, pow_pos, pow-add}
use Rattle.std.proofs.Math.Nat.{mul-le-mul_right}
use Rattle.sq_isa.specs.Fields as field

-- T is 2^(n - 1), the weight of the sign
module _ (n s v : ℕ) (T : ℕ) (weight : T ≡ 2 ^ (n - 1)) (whole : 2 ^ n ≡ 2 * T) (top : T * 2 ^ s ≡ 2 ^ 31) where
  extended_positive : v < T → int_shr (to_z w32 (v * 2 ^ s)) s ≡ field.sign_extend n v
  extended_positive below =
      let room = mul-le-mul_right {m = suc v} {n = T} (2 ^ s) below in
      let fits : v * 2 ^ s < 2 ^ 31 = omega (arith, pow_pos s) in
      let shifted : int_shr (to_z w32 (v * 2 ^ s)) s ≡ pos v =
      ap (λ z. int_shr z s) (to_z_pos w32 (v * 2 ^ s) fits) ∙ ap pos (shl-shr v s) in
      let test : ltb v (2 ^ (n - 1)) ≡ true = rw (← weight) (lt-ltb v T below) in
      shifted ∙ sym (cond-true (ltb v (2 ^ (n - 1))) (pos v) (pos v -ℤ pos (2 ^ n)) test)

  extended_negative : T ≤ v → v < 2 ^ n → int_shr (to_z w32 (v * 2 ^ s)) s ≡ field.sign_extend n v
  extended_negative above small =
      let d : ℕ = 2 ^ n - suc v in
      let parts : d + suc v ≡ 2 * T = omega arith in
      let product : (d + suc v) * 2 ^ s ≡ 2 * T * 2 ^ s = ap (λ k. k * 2 ^ s) parts in
      let most = mul-le-mul_right {m = T} {n = v} (2 ^ s) above in
      let high : 2 ^ 31 ≤ v * 2 ^ s = omega arith in
      let rest : 2 ^ 32 - suc (v * 2 ^ s) ≡ d * 2 ^ s + (2 ^ s - 1) = omega (arith, pow_pos s) in
      let signed : to_z w32 (v * 2 ^ s) ≡ negsuc (2 ^ 32 - suc (v * 2 ^ s)) =
      cond-false (ltb (v * 2 ^ s) (2 ^ 31)) (pos (v * 2 ^ s)) (negsuc (2 ^ 32 - suc (v * 2 ^ s))) (le-ltb (v * 2 ^ s) (2 ^ 31) high) in
      let low : 2 ^ s - 1 < 2 ^ s = omega (arith, pow_pos s) in
      let back : (2 ^ 32 - suc (v * 2 ^ s)) / 2 ^ s ≡ d = ap (λ k. k / 2 ^ s) rest ∙ shr_high d s (2 ^ s - 1) low in
      let shifted : int_shr (to_z w32 (v * 2 ^ s)) s ≡ negsuc d = ap (λ z. int_shr z s) signed ∙ ap negsuc back in
      let test : ltb v (2 ^ (n - 1)) ≡ false = rw (← weight) (le-ltb v T above) in
      let value : negsuc d ≡ pos v -ℤ pos (2 ^ n) = omega (arith, ints) in
      shifted ∙ (value ∙ sym (cond-false (ltb v (2 ^ (n - 1))) (pos v) (pos v -ℤ pos (2 ^ n)) test))

pub extended : (n s v : ℕ) → 1 ≤ n → n + s ≡ 32 → v < 2 ^ n → int_shr (to_z w32 (v * 2 ^ s)) s ≡ field.sign_extend n v
extended n s v some total small =
    let split : n ≡ (n - 1) + 1 = omega arith in
    let whole : 2 ^ n ≡ 2 * 2 ^ (n - 1) = ap (λ k. 2 ^ k) split ∙ (pow-add 2 (n - 1) 1 ∙ omega arith) in
    let sum : (n - 1) + s ≡ 31 = omega arith in
    let top : 2 ^ (n - 1) * 2 ^ s ≡ 2 ^ 31 = sym (pow-add 2 (n - 1) s) ∙ ap (λ k. 2 ^ k) sum in
    elim (cases_lt v (2 ^ (n - 1))) [
      | inl below ↦ extended_positive n s v (2 ^ (n - 1)) refl whole top below
      | inr above ↦ extended_negative n s v (2 ^ (n - 1)) refl whole top above small
    ]

-- nothing is lost on the way up
pub shifted_up : (n s v : ℕ) → 1 ≤ n → n + s ≡ 32 → v < 2 ^ n → v * 2 ^ s < 2 ^ 32
shifted_up n s v some total small =
    let room = mul-le-mul_right {m = suc v} {n = 2 ^ n} (2 ^ s) small in
    let whole : 2 ^ n * 2 ^ s ≡ 2 ^ 32 = sym (pow-add 2 n s) ∙ ap (λ k. 2 ^ k) total in
    omega (arith, pow_pos s)
