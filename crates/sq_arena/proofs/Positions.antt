-- Values under their positions.
use Rattle.std.proofs.Common.{◌≡◌, ℕ, suc, false, nat_eq, ◌+◌, ◌<◌, List, [], ◌∷◌, ◌++◌, length, refl, ap, ◌∙◌, arith}
use Rattle.std.specs.List.{AllByRecursion, IsDistinct}
use Rattle.std.proofs.lemmas.Bool.{ne_eqb}
use Rattle.sq_arena.specs.Entries.{keys, values, HasDistinctKeys, at_positions}

module _ {T : Type 0} where
  pub length-at_positions : (k : ℕ) (xs : List T) → length (at_positions k xs) ≡ length xs
  length-at_positions k [] = refl
  length-at_positions k (x ∷ xs) = ap suc (length-at_positions (k + 1) xs)

  pub values-at_positions : (k : ℕ) (xs : List T) → values (at_positions k xs) ≡ xs
  values-at_positions k [] = refl
  values-at_positions k (x ∷ xs) = ap (λ ys. x ∷ ys) (values-at_positions (k + 1) xs)

  pub at_positions-push : (k : ℕ) (xs : List T) (x : T) → at_positions k (xs ++ x ∷ []) ≡ at_positions k xs ++ (k + length xs, x) ∷ []
  at_positions-push k [] x = let e : k ≡ k + 0 = omega arith in ap (λ n. (n, x) ∷ []) e
  at_positions-push k (y ∷ xs) x =
      let e : k + 1 + length xs ≡ k + suc (length xs) = omega arith in
      ap (λ es. (k, y) ∷ es) (at_positions-push (k + 1) xs x ∙ ap (λ n. at_positions (k + 1) xs ++ (n, x) ∷ []) e)

  later : (k j : ℕ) (xs : List T) → k < j → AllByRecursion (λ y. nat_eq k y ≡ false) (keys (at_positions j xs))
  later k j [] less = tt
  later k j (x ∷ xs) less = (ne_eqb k j (λ same. omega (arith, less, same)), later k (j + 1) xs (omega (arith, less)))

  pub distinct-at_positions : (k : ℕ) (xs : List T) → HasDistinctKeys (at_positions k xs)
  unfolding IsDistinct
  distinct-at_positions k [] = tt
  distinct-at_positions k (x ∷ xs) = (later k (k + 1) xs (omega arith), distinct-at_positions (k + 1) xs)
