-- The codes of the operations in the RISC-V manual's instruction listings: for each group of instructions
-- that share an opcode, a list of codes and operations.
use Rattle.std.specs.Prelude.{ℕ, Option, Some, None, List, [], ◌∷◌, ◌==◌, if◌then◌else◌}
use Rattle.sq_isa.specs.declared.instructions.Cond.{Cond}
use Rattle.sq_isa.specs.declared.instructions.Cond.TheVariants.{Beq, Bne, Blt, Bge, Bltu, Bgeu}
use Rattle.sq_isa.specs.declared.instructions.LoadKind.{LoadKind}
use Rattle.sq_isa.specs.declared.instructions.LoadKind.TheVariants.{Lb, Lh, Lw, Lbu, Lhu}
use Rattle.sq_isa.specs.declared.instructions.StoreKind.{StoreKind}
use Rattle.sq_isa.specs.declared.instructions.StoreKind.TheVariants.{Sb, Sh, Sw}
use Rattle.sq_isa.specs.declared.instructions.ImmOp.{ImmOp}
use Rattle.sq_isa.specs.declared.instructions.ImmOp.TheVariants.{Addi, Slti, Sltiu, Xori, Ori, Andi, Slli, Srli, Srai}
use Rattle.sq_isa.specs.declared.instructions.RegOp.{RegOp}
use Rattle.sq_isa.specs.declared.instructions.RegOp.TheVariants.{Add, Sub, Sll, Slt, Sltu, Xor, Srl, Sra, Or, And, Mul, Mulh, Mulhsu, Mulhu, Div, Divu, Rem, Remu}

-- the operation of this code
abbrev pub coded_by : {A : Type 0} → List (ℕ × A) → ℕ → Option A
coded_by [] code = None
coded_by (row ∷ rows) code = if code == row.0 then Some row.1 else coded_by rows code

-- BRANCH, by funct3
abbrev pub conditions : List (ℕ × Cond)
conditions = (0b000, Beq) ∷ (0b001, Bne) ∷ (0b100, Blt) ∷ (0b101, Bge) ∷ (0b110, Bltu) ∷ (0b111, Bgeu) ∷ []

-- LOAD, by funct3
abbrev pub loads : List (ℕ × LoadKind)
loads = (0b000, Lb) ∷ (0b001, Lh) ∷ (0b010, Lw) ∷ (0b100, Lbu) ∷ (0b101, Lhu) ∷ []

-- STORE, by funct3
abbrev pub stores : List (ℕ × StoreKind)
stores = (0b000, Sb) ∷ (0b001, Sh) ∷ (0b010, Sw) ∷ []

-- OP-IMM with an immediate of 12 bits, by funct3
abbrev pub immediate_operations : List (ℕ × ImmOp)
immediate_operations =
    (0b000, Addi) ∷ (0b010, Slti) ∷ (0b011, Sltiu) ∷ (0b100, Xori) ∷ (0b110, Ori) ∷ (0b111, Andi) ∷ []

-- OP-IMM with a shift, by funct3: those with funct7 0000000, and those with 0100000
abbrev pub shifts : List (ℕ × ImmOp)
shifts = (0b001, Slli) ∷ (0b101, Srli) ∷ []

abbrev pub arithmetic_shifts : List (ℕ × ImmOp)
arithmetic_shifts = (0b101, Srai) ∷ []

-- OP, by funct3: those with funct7 0000000, with 0100000 and with 0000001
abbrev pub operations : List (ℕ × RegOp)
operations =
    (0b000, Add) ∷ (0b001, Sll) ∷ (0b010, Slt) ∷ (0b011, Sltu) ∷ (0b100, Xor) ∷ (0b101, Srl) ∷ (0b110, Or) ∷ (0b111, And) ∷ []

abbrev pub alternate_operations : List (ℕ × RegOp)
alternate_operations = (0b000, Sub) ∷ (0b101, Sra) ∷ []

abbrev pub multiplications : List (ℕ × RegOp)
multiplications =
    (0b000, Mul) ∷ (0b001, Mulh) ∷ (0b010, Mulhsu) ∷ (0b011, Mulhu) ∷ (0b100, Div) ∷ (0b101, Divu) ∷ (0b110, Rem) ∷ (0b111, Remu) ∷ []
