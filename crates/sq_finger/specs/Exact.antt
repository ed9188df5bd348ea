-- Equality that is exact.
use Rattle.std.specs.Prelude.{◌≡◌, ◌↔◌, Bool, true}

-- it answers true exactly where the two are equal
abbrev pub IsExact : {K : Type 0} → (K → K → Bool) → Type 0
IsExact {K} eq = (a b : K) → (eq a b ≡ true) ↔ (a ≡ b)
