-- An instruction split into its form and its registers: the form says what it does, and the registers where.
-- An ECALL's registers are fixed, so they are a part of its form.
use Rattle.std.specs.Prelude.{ℕ}
use Rattle.sq_isa.specs.declared.instructions.Insn.{Insn}
use Rattle.sq_isa.specs.declared.instructions.Insn.TheVariants.{Lui, Auipc, Jal, Jalr, Branch, Load, Store, OpImm, Op, Fence, Ecall, Ebreak, Unimp, Atomic}

-- the instruction with each register replaced by another
abbrev pub renamed : (ℕ → ℕ) → Insn → Insn
renamed to (Lui rd upper) = Lui (to rd) upper
renamed to (Auipc rd upper) = Auipc (to rd) upper
renamed to (Jal rd offset) = Jal (to rd) offset
renamed to (Jalr rd rs offset) = Jalr (to rd) (to rs) offset
renamed to (Branch c a b offset) = Branch c (to a) (to b) offset
renamed to (Load kind rd rs offset) = Load kind (to rd) (to rs) offset
renamed to (Store kind rs src offset) = Store kind (to rs) (to src) offset
renamed to (OpImm op rd rs imm) = OpImm op (to rd) (to rs) imm
renamed to (Op op rd a b) = Op op (to rd) (to a) (to b)
renamed to (Fence word) = Fence word
renamed to Ecall = Ecall
renamed to Ebreak = Ebreak
renamed to (Unimp word) = Unimp word
renamed to (Atomic op order rd rs src) = Atomic op order (to rd) (to rs) (to src)

-- the form: the instruction with x0 for each register
abbrev pub form_of : Insn → Insn
form_of insn = renamed (λ _. 0) insn

-- the first source register and the second, or x0 where there is none
abbrev pub first_of : Insn → ℕ
first_of (Lui rd upper) = 0
first_of (Auipc rd upper) = 0
first_of (Jal rd offset) = 0
first_of (Jalr rd rs offset) = rs
first_of (Branch c a b offset) = a
first_of (Load kind rd rs offset) = rs
first_of (Store kind rs src offset) = rs
first_of (OpImm op rd rs imm) = rs
first_of (Op op rd a b) = a
first_of (Fence word) = 0
first_of Ecall = 0
first_of Ebreak = 0
first_of (Unimp word) = 0
first_of (Atomic op order rd rs src) = rs

abbrev pub second_of : Insn → ℕ
second_of (Lui rd upper) = 0
second_of (Auipc rd upper) = 0
second_of (Jal rd offset) = 0
second_of (Jalr rd rs offset) = 0
second_of (Branch c a b offset) = b
second_of (Load kind rd rs offset) = 0
second_of (Store kind rs src offset) = src
second_of (OpImm op rd rs imm) = 0
second_of (Op op rd a b) = b
second_of (Fence word) = 0
second_of Ecall = 0
second_of Ebreak = 0
second_of (Unimp word) = 0
second_of (Atomic op order rd rs src) = src

-- the instruction with this destination and these two sources, where it has them. The registers of an ECALL are fixed
abbrev pub with_registers : ℕ → ℕ → ℕ → Insn → Insn
with_registers d a b (Lui rd upper) = Lui d upper
with_registers d a b (Auipc rd upper) = Auipc d upper
with_registers d a b (Jal rd offset) = Jal d offset
with_registers d a b (Jalr rd rs offset) = Jalr d a offset
with_registers d a b (Branch c x y offset) = Branch c a b offset
with_registers d a b (Load kind rd rs offset) = Load kind d a offset
with_registers d a b (Store kind rs src offset) = Store kind a b offset
with_registers d a b (OpImm op rd rs imm) = OpImm op d a imm
with_registers d a b (Op op rd x y) = Op op d a b
with_registers d a b (Fence word) = Fence word
with_registers d a b Ecall = Ecall
with_registers d a b Ebreak = Ebreak
with_registers d a b (Unimp word) = Unimp word
with_registers d a b (Atomic op order rd rs src) = Atomic op order d a b
