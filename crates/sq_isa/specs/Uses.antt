-- Which registers an instruction reads, writes and mentions.
use Rattle.std.specs.Prelude.{ℕ, Bool, List, [], ◌∷◌}
use Rattle.sq_isa.specs.Registers.{is_among_but_x0}
use Rattle.sq_isa.specs.declared.instructions.Insn.{Insn}
use Rattle.sq_isa.specs.declared.instructions.Insn.TheVariants.{Lui, Auipc, Jal, Jalr, Branch, Load, Store, OpImm, Op, Fence, Ecall, Ebreak, Unimp, Atomic}

-- the source registers, in the order of the fields. By the calling convention of Linux an ECALL takes its
-- number from a7 and its arguments from a0, a1 and a2
abbrev pub sources_of : Insn → List ℕ
sources_of (Lui rd upper) = []
sources_of (Auipc rd upper) = []
sources_of (Jal rd offset) = []
sources_of (Jalr rd rs offset) = rs ∷ []
sources_of (Branch c a b offset) = a ∷ b ∷ []
sources_of (Load kind rd rs offset) = rs ∷ []
sources_of (Store kind rs src offset) = rs ∷ src ∷ []
sources_of (OpImm op rd rs imm) = rs ∷ []
sources_of (Op op rd a b) = a ∷ b ∷ []
sources_of (Fence word) = []
sources_of Ecall = 10 ∷ 11 ∷ 12 ∷ 17 ∷ []
sources_of Ebreak = []
sources_of (Unimp word) = []
sources_of (Atomic op order rd rs src) = rs ∷ src ∷ []

-- the destination register, or x0 where there is none. An ECALL's answer comes in a0
abbrev pub destination_of : Insn → ℕ
destination_of (Lui rd upper) = rd
destination_of (Auipc rd upper) = rd
destination_of (Jal rd offset) = rd
destination_of (Jalr rd rs offset) = rd
destination_of (Branch c a b offset) = 0
destination_of (Load kind rd rs offset) = rd
destination_of (Store kind rs src offset) = 0
destination_of (OpImm op rd rs imm) = rd
destination_of (Op op rd a b) = rd
destination_of (Fence word) = 0
destination_of Ecall = 10
destination_of Ebreak = 0
destination_of (Unimp word) = 0
destination_of (Atomic op order rd rs src) = rd

-- whether the instruction reads r, writes r, or does either. x0 is read as 0 and never written, so it
-- counts as neither
abbrev pub is_read : Insn → ℕ → Bool
is_read insn r = is_among_but_x0 (sources_of insn) r

abbrev pub is_written : Insn → ℕ → Bool
is_written insn r = is_among_but_x0 (destination_of insn ∷ []) r

abbrev pub is_mentioned : Insn → ℕ → Bool
is_mentioned insn r = is_among_but_x0 (destination_of insn ∷ sources_of insn) r
