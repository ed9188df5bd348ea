-- What a contract sees of an `Arena`.
use Rattle.std.specs.Prelude.{ℕ, List, refl}
use Rattle.std.specs.Coded.{Coded, code_by, coded×, coded_ℕ, coded_list}

-- the pairs of key and value in order, and how many more fit with no memory
pub record Arena (T : Type 0) : Type 0 where
  pub entries : List (ℕ × T)
  pub spare : ℕ

-- an arena is stored as the pair of its fields
abbrev pub arena_code : {T : Type 0} → Coded T → Coded (Arena T)
arena_code {T} code =
    code_by
    (List (ℕ × T) × ℕ)
    (coded× (coded_list (coded× coded_ℕ code)) coded_ℕ)
    (λ a. (a.entries, a.spare))
    (λ p. record { entries = p.0; spare = p.1 })
    (λ _. refl)
