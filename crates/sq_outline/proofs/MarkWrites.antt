-- The marks of bodies, by what their items write.
use Rattle.std.proofs.Common.{◌≡◌, ℕ, ◌&&◌, ◌==◌, not, refl, false, true, Bool, sym, ◌∙◌, arith}
use Rattle.std.proofs.lemmas.Bool.{eq-eqb}
use Rattle.sq_isa.specs.Registers.{is_member}
use Rattle.sq_outline.proofs.WindowsKinds.{same_set}

-- a bit of one set is that of another, but for what is taken from both
same_but : (dead left right : Bool) → (dead ≡ false → left ≡ right) → (left && not dead) ≡ (right && not dead)
same_but false left right same = rw (same refl) refl
same_but true left right same = grind arith

-- sets that have the same members but for some are the same without these
pub same_without : (dead set other own others : ℕ) → ((r : ℕ) → is_member dead r ≡ false → is_member set r ≡ is_member other r) → ((r : ℕ) → is_member own r ≡ (is_member set r && not (is_member dead r))) → ((r : ℕ) → is_member others r ≡ (is_member other r && not (is_member dead r))) → own ≡ others
same_without dead set other own others same left right =
    same_set own others (λ r. left r ∙ same_but (is_member dead r) (is_member set r) (is_member other r) (same r) ∙ sym (right r))

-- sets that aren't told to be equal aren't
pub apart : (own others : ℕ) → true ≡ not (own == others) → own ≡ others → ⊥
apart own others told same = absurd (let e = eq-eqb own others same in cc)
