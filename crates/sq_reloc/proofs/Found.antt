-- The first element of a list that passes a test.
use Rattle.std.proofs.Common.{◌≡◌, ℕ, suc, ◌<◌, Bool, true, false, cond, List, [], ◌∷◌, length, get_or, Some, refl, arith}
use Rattle.std.specs.List.{find}

-- it stands at this place, and passes
pub record IsFoundAt {X : Type 0} (test : X → Bool) (xs : List X) (d x : X) : Type 0 where
  pub place : ℕ
  pub within : place < length xs
  pub is : get_or xs place d ≡ x
  pub passes : test x ≡ true

module _ {X : Type 0} (test : X → Bool) (d x : X) where
  behind : (y : X) (ys : List X) → IsFoundAt test ys d x → IsFoundAt test (y ∷ ys) d x
  behind y ys found = record { place = suc found.place; within = omega (arith, found.within); is = found.is; passes = found.passes }

  pub found_at : (xs : List X) → find test xs ≡ Some x → IsFoundAt test xs d x
  found_at [] some = absurd (cc some)
  found_at (y ∷ ys) some = by_test (λ rest. found_at ys rest) (test y) refl some
    where
      by_test : (find test ys ≡ Some x → IsFoundAt test ys d x) → (b : Bool) → test y ≡ b → cond b (Some y) (find test ys) ≡ Some x → IsFoundAt test (y ∷ ys) d x
      by_test more true is here = let same : y ≡ x = cc here in record { place = 0; within = omega arith; is = same; passes = rw (← same) is }
      by_test more false is here = behind y ys (more here)
