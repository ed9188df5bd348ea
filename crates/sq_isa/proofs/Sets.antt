-- Sets of registers by their bits.
use Rattle.std.proofs.Common.{◌≡◌, ℕ, ◌*◌, ◌%◌, ◌^◌, ◌<◌, ◌==◌, ◌||◌, ◌&&◌, not, bit_or, bit_and, bit_xor, true, inl, inr, arith, sym, ap, ◌∙◌, w32}
use Rattle.std.specs.Int.{bit_at}
use Rattle.std.proofs.lemmas.Bool.{cases_eq}
use Rattle.std.proofs.lemmas.Bool.Decides.{nat_tests}
use Rattle.std.proofs.lemmas.Nat.Bits.{bit_at_set_same, bit_at_set_other, bit_at_lowest, bit_at_or, bit_at_and, bit_at_xor, bit_at_mask_inside, bit_at-lt}
use Rattle.sq_isa.specs.Registers.{is_member}

-- the set with r in it
pub member_with : (m r q : ℕ) → r < 32 → (r ≡ 0 → ⊥) →
    is_member (bit_or m (1 * 2 ^ r % 2 ^ 32)) q ≡ (is_member m q || (not (q == 0) && r == q))
member_with m r q h p = elim (cases_eq q r) [
  | inl e ↦ (let same = bit_at_set_same w32 m r h in let goal_same : bit_at (bit_or m (1 * 2 ^ r % 2 ^ 32)) q ≡ 1 = rw e same in grind (arith, nat_tests))
  | inr n ↦ (let other = bit_at_set_other w32 m r h q n in grind (arith, nat_tests))
]

-- x0 stays out
pub even_with : (m r : ℕ) → r < 32 → (r ≡ 0 → ⊥) → m % 2 ≡ 0 → bit_or m (1 * 2 ^ r % 2 ^ 32) % 2 ≡ 0
even_with m r h p e =
    sym (bit_at_lowest (bit_or m (1 * 2 ^ r % 2 ^ 32))) ∙ (bit_at_set_other w32 m r h 0 (λ z. p (sym z)) ∙ (bit_at_lowest m ∙ e))

-- the registers of two sets
pub member_union : (m n q : ℕ) → is_member (bit_or m n) q ≡ (is_member m q || is_member n q)
member_union m n q =
    let joined = bit_at_or m n q in
    let left = bit_at-lt m q in
    let right = bit_at-lt n q in
    grind (arith, nat_tests)

-- x0 is in neither
pub even_union : (m n : ℕ) → m % 2 ≡ 0 → n % 2 ≡ 0 → bit_or m n % 2 ≡ 0
even_union m n e f =
    let joined = bit_at_or m n 0 in
    let left = bit_at_lowest m in
    let right = bit_at_lowest n in
    let both = bit_at_lowest (bit_or m n) in
    omega arith

-- the registers of one set that aren't in another
pub member_without : (m n q : ℕ) → is_member (bit_xor m (bit_and m n)) q ≡ (is_member m q && not (is_member n q))
member_without m n q =
    let left_out = bit_at_xor m (bit_and m n) q in
    let both = bit_at_and m n q in
    let left = bit_at-lt m q in
    let right = bit_at-lt n q in
    grind (arith, nat_tests)

-- x0 isn't in it
pub even_without : (m n : ℕ) → m % 2 ≡ 0 → bit_xor m (bit_and m n) % 2 ≡ 0
even_without m n e =
    let left_out = bit_at_xor m (bit_and m n) 0 in
    let both = bit_at_and m n 0 in
    let left = bit_at_lowest m in
    let all = bit_at_lowest (bit_xor m (bit_and m n)) in
    omega arith

-- every register but x0
pub member_all : (q : ℕ) → 0 < q → q < 32 → is_member 0xfffffffe q ≡ true
member_all q above below =
    let inside = bit_at_mask_inside 1 32 q (omega arith) below in
    grind (arith, nat_tests)

-- a set that stays with another is all of it
pub of_both : (m n q : ℕ) → bit_or m n ≡ m → is_member n q ≡ true → is_member m q ≡ true
of_both m n q same member =
    let joined : is_member m q ≡ (is_member m q || is_member n q) = sym (ap (λ k. is_member k q) same) ∙ member_union m n q in
    grind (arith, joined, member)
