-- How long numbers are in decimal.
use Rattle.std.proofs.Common.{ℕ, ◌^◌, ◌<◌, ◌≤◌, length, arith}
use Rattle.std.specs.Prelude.{decimal}
use Rattle.std.proofs.lemmas.Fmt.{length-decimal-le}

-- a number of 64 bits has at most 20 digits
pub long_decimal : (n : ℕ) → n < 2 ^ 64 → length (decimal n) ≤ 20
long_decimal n small = length-decimal-le 20 n (omega arith) (omega arith) small

-- a number of 32 bits has at most 10 digits
pub word_decimal : (n : ℕ) → n < 2 ^ 32 → length (decimal n) ≤ 10
word_decimal n small = length-decimal-le 10 n (omega arith) (omega arith) (omega arith)

-- a number below 100 has at most 2 digits
pub short_decimal : (n : ℕ) → n < 100 → length (decimal n) ≤ 2
short_decimal n small = length-decimal-le 2 n (omega arith) (omega arith) (omega arith)
