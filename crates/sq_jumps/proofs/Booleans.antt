-- Truth values.
use Rattle.std.proofs.Common.{◌≡◌, ◌⊎◌, ℕ, Bool, true, false, not, ◌||◌, inl, inr, refl, sym, ◌==◌}
use Rattle.std.proofs.lemmas.Bool.{ne_eqb, eqb-false, or_left, or_right}

pub other_way : (a b : ℕ) → (a == b) ≡ false → (b == a) ≡ false
other_way a b e = ne_eqb b a (λ same. eqb-false a b e (sym same))

-- one of four holds, once another stands for the third
pub one_of_four : (Q : Type 0) (a b c c' d : Bool) → (c ≡ true → (c' ≡ true) ⊎ Q) → (a || (b || (c || d))) ≡ true → ((a || (b || (c' || d))) ≡ true) ⊎ Q
one_of_four Q true b c c' d h e = inl refl
one_of_four Q false true c c' d h e = inl refl
one_of_four Q false false true c' d h e = elim (h refl) [ inl holds ↦ inl (or_left c' d holds) | inr q ↦ inr q ]
one_of_four Q false false false c' d h e = inl (or_right c' d e)

pub not_both : (b : Bool) → b ≡ true → not b ≡ true → ⊥
not_both true e f = absurd (cc)
not_both false e f = absurd (cc)
