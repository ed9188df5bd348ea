-- What an operation computes, one row an operation, as in the RISC-V manual's chapters on RV32I and M.
use Rattle.std.specs.Prelude.{ℕ, ℤ, pos, ◌+◌, ◌-◌, ◌*◌, ◌/◌, ◌%◌, ◌^◌, ◌*ℤ◌, ◌==◌, nat_lt, int_lt, int_div, int_rem, bit_and, bit_or, bit_xor, if◌then◌else◌}
use Rattle.std.specs.Int.{int_shr}
use Rattle.sq_isa.specs.Words.{signed, unsigned, wrapped, number_of, shift_of}
use Rattle.sq_isa.specs.declared.instructions.RegOp.{RegOp}
use Rattle.sq_isa.specs.declared.instructions.RegOp.TheVariants.{Add, Sub, Sll, Slt, Sltu, Xor, Srl, Sra, Or, And, Mul, Mulh, Mulhsu, Mulhu, Div, Divu, Rem, Remu}
use Rattle.sq_isa.specs.declared.instructions.ImmOp.{ImmOp}
use Rattle.sq_isa.specs.declared.instructions.ImmOp.TheVariants.{Addi, Slti, Sltiu, Xori, Ori, Andi, Slli, Srli, Srai}

-- the word with every bit 1
abbrev pub all_ones : ℕ
all_ones = 2 ^ 32 - 1

-- the upper 32 of the 64 bits of a product
abbrev pub upper_half_of : ℤ → ℕ
upper_half_of product = unsigned (int_shr product 32)

-- the value of an operation on two words. Sums, differences and products wrap at 2^32, and a comparison
-- gives 1 or 0. A division by zero gives all ones, and its remainder the dividend; -2^31 by -1 gives 2^31,
-- whose word is that of -2^31, and remainder 0. `int_div` and `int_rem` round toward zero.
abbrev pub value_of : RegOp → ℕ → ℕ → ℕ
value_of Add a b = wrapped (a + b)
value_of Sub a b = wrapped (a + (2 ^ 32 - b))
value_of Sll a b = wrapped (a * 2 ^ shift_of b)
value_of Slt a b = number_of (int_lt (signed a) (signed b))
value_of Sltu a b = number_of (nat_lt a b)
value_of Xor a b = bit_xor a b
value_of Srl a b = a / 2 ^ shift_of b
value_of Sra a b = unsigned (int_shr (signed a) (shift_of b))
value_of Or a b = bit_or a b
value_of And a b = bit_and a b
value_of Mul a b = wrapped (a * b)
value_of Mulh a b = upper_half_of (signed a *ℤ signed b)
value_of Mulhsu a b = upper_half_of (signed a *ℤ pos b)
value_of Mulhu a b = a * b / 2 ^ 32
value_of Div a b = if b == 0 then all_ones else unsigned (int_div (signed a) (signed b))
value_of Divu a b = if b == 0 then all_ones else a / b
value_of Rem a b = if b == 0 then a else unsigned (int_rem (signed a) (signed b))
value_of Remu a b = if b == 0 then a else a % b

-- the operation on two words that an operation with an immediate is
abbrev pub reg_op_of : ImmOp → RegOp
reg_op_of Addi = Add
reg_op_of Slti = Slt
reg_op_of Sltiu = Sltu
reg_op_of Xori = Xor
reg_op_of Ori = Or
reg_op_of Andi = And
reg_op_of Slli = Sll
reg_op_of Srli = Srl
reg_op_of Srai = Sra

-- the value of an operation on a word and an immediate, which is sign extended to a word first
abbrev pub value_imm_of : ImmOp → ℕ → ℤ → ℕ
value_imm_of op a imm = value_of (reg_op_of op) a (unsigned imm)
