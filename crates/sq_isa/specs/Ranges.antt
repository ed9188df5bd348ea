-- The range of each field of an instruction, so that a word can hold it.
use Rattle.std.specs.Prelude.{ℕ, ℤ, pos, neg_ℤ, ◌≡◌, ◌-◌, ◌%◌, ◌^◌, ◌<◌, ◌≤ℤ◌, ◌<ℤ◌, ◌⊎◌, unsigned_abs}
use Rattle.sq_isa.specs.Fields.{bits}
use Rattle.sq_isa.specs.declared.instructions.Insn.{Insn}
use Rattle.sq_isa.specs.declared.instructions.Insn.TheVariants.{Lui, Auipc, Jal, Jalr, Branch, Load, Store, OpImm, Op, Fence, Ecall, Ebreak, Unimp, Atomic}
use Rattle.sq_isa.specs.declared.instructions.ImmOp.{ImmOp}
use Rattle.sq_isa.specs.declared.instructions.ImmOp.TheVariants.{Addi, Slti, Sltiu, Xori, Ori, Andi, Slli, Srli, Srai}
use Rattle.sq_isa.specs.declared.instructions.AtomicOp.{AtomicOp}
use Rattle.sq_isa.specs.declared.instructions.AtomicOp.TheVariants.{Lr, Sc, Swap, Add, Xor, And, Or, Min, Max, MinU, MaxU}

-- x0 to x31
abbrev pub IsRegister : ℕ → Type 0
IsRegister r = r < 32

-- a signed number of n bits: from -2^(n - 1) to 2^(n - 1) - 1
abbrev pub IsSigned : ℕ → ℤ → Type 0
IsSigned n z = (neg_ℤ (pos (2 ^ (n - 1))) ≤ℤ z) × (z <ℤ pos (2 ^ (n - 1)))

abbrev pub IsEven : ℤ → Type 0
IsEven z = unsigned_abs z % 2 ≡ 0

-- the distance of a shift
abbrev pub IsShift : ℤ → Type 0
IsShift z = (pos 0 ≤ℤ z) × (z <ℤ pos 32)

-- the immediate of an operation: 12 bits, but for a shift
abbrev pub ImmediateFits : ImmOp → ℤ → Type 0
ImmediateFits Addi imm = IsSigned 12 imm
ImmediateFits Slti imm = IsSigned 12 imm
ImmediateFits Sltiu imm = IsSigned 12 imm
ImmediateFits Xori imm = IsSigned 12 imm
ImmediateFits Ori imm = IsSigned 12 imm
ImmediateFits Andi imm = IsSigned 12 imm
ImmediateFits Slli imm = IsShift imm
ImmediateFits Srli imm = IsShift imm
ImmediateFits Srai imm = IsShift imm

-- the source of an atomic operation: LR has none, so its field is x0
abbrev pub SourceFits : AtomicOp → ℕ → Type 0
SourceFits Lr src = src ≡ 0
SourceFits Sc src = IsRegister src
SourceFits Swap src = IsRegister src
SourceFits Add src = IsRegister src
SourceFits Xor src = IsRegister src
SourceFits And src = IsRegister src
SourceFits Or src = IsRegister src
SourceFits Min src = IsRegister src
SourceFits Max src = IsRegister src
SourceFits MinU src = IsRegister src
SourceFits MaxU src = IsRegister src

-- the words that stand for no instruction
abbrev pub IsUnimp : ℕ → Type 0
IsUnimp word = (word ≡ 0) ⊎ (word ≡ 0xc0001073)

-- each field of the instruction is in its range
abbrev pub FieldsFit : Insn → Type 0
FieldsFit (Lui rd upper) = IsRegister rd × (upper < 2 ^ 20)
FieldsFit (Auipc rd upper) = IsRegister rd × (upper < 2 ^ 20)
FieldsFit (Jal rd offset) = IsRegister rd × IsSigned 21 offset × IsEven offset
FieldsFit (Jalr rd rs offset) = IsRegister rd × IsRegister rs × IsSigned 12 offset
FieldsFit (Branch c a b offset) = IsRegister a × IsRegister b × IsSigned 13 offset × IsEven offset
FieldsFit (Load kind rd rs offset) = IsRegister rd × IsRegister rs × IsSigned 12 offset
FieldsFit (Store kind rs src offset) = IsRegister rs × IsRegister src × IsSigned 12 offset
FieldsFit (OpImm op rd rs imm) = IsRegister rd × IsRegister rs × ImmediateFits op imm
FieldsFit (Op op rd a b) = IsRegister rd × IsRegister a × IsRegister b
FieldsFit (Fence word) = (word < 2 ^ 32) × (bits word 6 0 ≡ 0b0001111) × (bits word 14 12 ≡ 0)
FieldsFit Ecall = Unit {0}
FieldsFit Ebreak = Unit {0}
FieldsFit (Unimp word) = IsUnimp word
FieldsFit (Atomic op order rd rs src) = (order < 4) × IsRegister rd × IsRegister rs × SourceFits op src
