-- Texts of numbers, beside std's decimal.
use Rattle.std.specs.Prelude.{ℕ, ◌+◌, ◌/◌, ◌%◌, ◌^◌, nat_lt, if◌then◌else◌, List, [], ◌∷◌, ◌++◌, map, codes}

-- a digit below 16 in lower case
abbrev pub hex_digit : ℕ → ℕ
hex_digit d = if nat_lt d 10 then 48 + d else 87 + d

-- `0x` and eight digits, the highest first
abbrev pub hex_text : ℕ → List ℕ
hex_text v = codes "0x" ++ map (λ place. hex_digit (v / 16 ^ place % 16)) (7 ∷ 6 ∷ 5 ∷ 4 ∷ 3 ∷ 2 ∷ 1 ∷ 0 ∷ [])
