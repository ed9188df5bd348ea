-- The set of dead registers.
use Rattle.std.proofs.Common.{◌≡◌, ◌↔◌, not, ℕ, Bool, true, false, refl, ap, ◌∙◌}
use Rattle.sq_isa.specs.Registers.{is_member}

pub dead_is : (dead set r : ℕ) (Lives : Type 0) → is_member dead r ≡ not (is_member set r) → (is_member set r ≡ true) ↔ Lives → (is_member dead r ≡ true) ↔ (¬ Lives)
dead_is dead set r Lives e exact = (
  λ t l. let m : is_member set r ≡ true = exact.1 l in let f : not (is_member set r) ≡ false = ap not m in cc,
  λ n. known n (is_member set r) refl,
) where
  known : (¬ Lives) → (b : Bool) → is_member set r ≡ b → is_member dead r ≡ true
  known n true f = absurd (n (exact.0 f))
  known n false f = e ∙ ap not f
