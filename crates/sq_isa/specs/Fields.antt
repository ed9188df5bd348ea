-- The fields of a word, by the bit ranges of the RISC-V manual's formats R, I, S, B, U and J.
use Rattle.std.specs.Prelude.{ℕ, ℤ, pos, ◌+◌, ◌-◌, ◌*◌, ◌/◌, ◌%◌, ◌^◌, ◌-ℤ◌, nat_lt, if◌then◌else◌}

-- bits `high` to `low` of a word, as in `word[high:low]`
abbrev pub bits : ℕ → ℕ → ℕ → ℕ
bits word high low = word / 2 ^ low % 2 ^ (high + 1 - low)

abbrev pub opcode : ℕ → ℕ
opcode word = bits word 6 0

abbrev pub rd : ℕ → ℕ
rd word = bits word 11 7

abbrev pub funct3 : ℕ → ℕ
funct3 word = bits word 14 12

abbrev pub rs1 : ℕ → ℕ
rs1 word = bits word 19 15

abbrev pub rs2 : ℕ → ℕ
rs2 word = bits word 24 20

abbrev pub funct7 : ℕ → ℕ
funct7 word = bits word 31 25

-- the n bits v as a signed number: the highest of them is the sign
abbrev pub sign_extend : ℕ → ℕ → ℤ
sign_extend n v = if nat_lt v (2 ^ (n - 1)) then pos v else pos v -ℤ pos (2 ^ n)

-- bits [11:0] of an immediate of format I stand in 31:20
abbrev pub immediate_i : ℕ → ℤ
immediate_i word = sign_extend 12 (bits word 31 20)

-- bits [11:5] of one of format S stand in 31:25, and [4:0] in 11:7
abbrev pub immediate_s : ℕ → ℤ
immediate_s word = sign_extend 12 (bits word 31 25 * 2 ^ 5 + bits word 11 7)

-- bit 12 of one of format B stands in 31, 11 in 7, [10:5] in 30:25 and [4:1] in 11:8; bit 0 is 0
abbrev pub immediate_b : ℕ → ℤ
immediate_b word =
    sign_extend 13 (bits word 31 31 * 2 ^ 12 + bits word 7 7 * 2 ^ 11 + bits word 30 25 * 2 ^ 5 + bits word 11 8 * 2)

-- the upper 20 bits of one of format U stand in 31:12
abbrev pub immediate_u : ℕ → ℕ
immediate_u word = bits word 31 12

-- bit 20 of one of format J stands in 31, [19:12] in 19:12, 11 in 20 and [10:1] in 30:21; bit 0 is 0
abbrev pub immediate_j : ℕ → ℤ
immediate_j word =
    sign_extend 21 (bits word 31 31 * 2 ^ 20 + bits word 19 12 * 2 ^ 12 + bits word 20 20 * 2 ^ 11 + bits word 30 21 * 2)
