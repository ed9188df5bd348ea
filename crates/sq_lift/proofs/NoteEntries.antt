-- The entries of a note, one after another.
use Rattle.std.proofs.Common.{◌≡◌, ℕ, zero, suc, ◌+◌, ◌*◌, List, [], ◌∷◌, ◌++◌, length, refl, ap, arith}
use Rattle.law_program.specs.NoteSections.{full_note, full_notes}

pub full_more : (note : List ℕ) (at n : ℕ) → full_notes note at (n + 1) ≡ full_notes note at n ++ full_note note (at + 12 * n) ∷ []
full_more note at n = let e : n + 1 ≡ suc n = omega arith in rw e (more at n)
  where
    more : (at n : ℕ) → full_notes note at (suc n) ≡ full_notes note at n ++ full_note note (at + 12 * n) ∷ []
    more at zero = let e : at + 12 * 0 ≡ at = omega arith in rw e refl
    more at (suc n) =
        let e : at + 12 * suc n ≡ at + 12 + 12 * n = omega arith in
        rw e (ap (λ ns. full_note note at ∷ ns) (more (at + 12) n))

pub full_count : (note : List ℕ) (at n : ℕ) → length (full_notes note at n) ≡ n
full_count note at zero = refl
full_count note at (suc n) = ap suc (full_count note (at + 12) n)
