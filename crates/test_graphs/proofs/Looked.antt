-- What a loop over a list has looked at.
use Rattle.std.proofs.Common.{◌≡◌, ℕ, ◌+◌, ◌-◌, ◌<◌, ◌≤◌, ◌==◌, List, length, take, get_or, slice_index, sym, subst, inl, inr, arith, take_all}
use Rattle.std.proofs.lemmas.Bool.{cases_Bool, eqb-true, eqb-false}
use Rattle.std.specs.List.{All}
use Rattle.std.specs.List.Sorted.{IsStrictlyIncreasing}
use Rattle.std.proofs.lemmas.List.Elements.{All-more, All-same}

module _ {X : Type 0} (P : X → Type 0) (xs : List X) (i : ℕ) where
  -- one element more, as the loop reads it
  pub one_more : (x : X) → i < length xs → x ≡ get_or xs i x → P x → All P (take i xs) → All P (take (i + 1) xs)
  one_more x there is right all = All-more P xs i x there all (subst P is right)

  -- all of them
  pub all_looked_at : length xs ≤ i → All P (take i xs) → All P xs
  all_looked_at least all = All-same P xs (take i xs) (sym (take_all i xs least)) all

-- each number from the second on is above the one before
pub ascends : (ns : List ℕ) → ((m : ℕ) → m < length ns → 0 < m → slice_index ns (m - 1) < slice_index ns m) → IsStrictlyIncreasing ns
ascends ns up k there =
    let e : k + 1 - 1 ≡ k = omega arith in
    subst (λ m. slice_index ns m < slice_index ns (k + 1)) e (up (k + 1) there (omega arith))

pub ascends_more : (ns : List ℕ) (i : ℕ) → ((m : ℕ) → m < i → 0 < m → slice_index ns (m - 1) < slice_index ns m) → slice_index ns (i - 1) < slice_index ns i → (m : ℕ) → m < i + 1 → 0 < m → slice_index ns (m - 1) < slice_index ns m
ascends_more ns i below here m there some =
    elim (cases_Bool (m == i)) [
      | inl same ↦ subst (λ n. slice_index ns (n - 1) < slice_index ns n) (sym (eqb-true m i same)) here
      | inr apart ↦ below m (omega (arith, there, eqb-false m i apart)) some
    ]
