-- Runs of members that stand one behind the other.
use Rattle.std.specs.Prelude.{◌≡◌, ◌↔◌, ℕ, zero, suc, ◌+◌, List, [], ◌∷◌, Option, None, Some, length}
use Rattle.std.specs.Option.{option_map, option_zip}
use Rattle.sq_finger.specs.Numbers.{member_at}

-- the n members from a place on, where there is one at each of these places
abbrev pub run_at : {X : Type 0} → ℕ → List (Option X) → ℕ → Option (List X)
run_at zero members i = Some []
run_at (suc n) members i = option_map (λ run. run.0 ∷ run.1) (option_zip (member_at members i) (run_at n members (i + 1)))

-- The numbers of the runs of n members: there is one exactly where there is a run, and two are equal exactly where the
-- runs are.
pub record AreRunNumbers {X : Type 0} (n : ℕ) (members : List (Option X)) (numbers : List (Option ℕ)) : Type 0 where
  pub many : length numbers ≡ length members
  pub none : (i : ℕ) → (member_at numbers i ≡ None) ↔ (run_at n members i ≡ None)
  pub same : (i j : ℕ) → (member_at numbers i ≡ member_at numbers j) ↔ (run_at n members i ≡ run_at n members j)
