-- What registers stand for on the two sides of a change.
use Rattle.std.specs.Prelude.{◌≡◌, ℕ, zero, suc, false, List, [], ◌∷◌}
use Rattle.sq_graph.specs.Walks.{is_register}

-- a register that is read on both sides: x0 on both, or one that stands for the other
abbrev pub IsSource : (ℕ → ℕ → Type 0) → ℕ → ℕ → Type 0
IsSource Stands zero zero = Unit {0}
IsSource Stands zero (suc s) = ⊥
IsSource Stands (suc r) zero = ⊥
IsSource Stands (suc r) (suc s) = Stands (suc r) (suc s)

abbrev pub AreSources : (ℕ → ℕ → Type 0) → List ℕ → List ℕ → Type 0
AreSources Stands [] [] = Unit {0}
AreSources Stands [] (s ∷ ss) = ⊥
AreSources Stands (r ∷ rs) [] = ⊥
AreSources Stands (r ∷ rs) (s ∷ ss) = IsSource Stands r s × AreSources Stands rs ss

-- what stands for what after d and e are written: both, or neither, and then as before
abbrev pub IsWritten : (ℕ → ℕ → Type 0) → ℕ → ℕ → (ℕ → ℕ → Type 0) → Type 0
IsWritten Stands d e Next = (r s : ℕ) → Next r s → (is_register e s ≡ is_register d r) × (is_register d r ≡ false → Stands r s)
