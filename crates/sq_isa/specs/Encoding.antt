-- The word of an instruction, by the RISC-V manual's formats: the table of `Table` from the instruction's side.
use Rattle.std.specs.Prelude.{ℕ, ℤ, ◌+◌, ◌*◌, ◌^◌}
use Rattle.sq_isa.specs.Fields.{bits}
use Rattle.sq_isa.specs.Words.{unsigned}
use Rattle.sq_isa.specs.AtomicEncoding.{atomic_code}
use Rattle.sq_isa.specs.declared.instructions.Insn.{Insn}
use Rattle.sq_isa.specs.declared.instructions.Insn.TheVariants.{Lui, Auipc, Jal, Jalr, Branch, Load, Store, OpImm, Op, Fence, Ecall, Ebreak, Unimp, Atomic}
use Rattle.sq_isa.specs.declared.instructions.Cond.{Cond}
use Rattle.sq_isa.specs.declared.instructions.Cond.TheVariants.{Beq, Bne, Blt, Bge, Bltu, Bgeu}
use Rattle.sq_isa.specs.declared.instructions.LoadKind.{LoadKind}
use Rattle.sq_isa.specs.declared.instructions.LoadKind.TheVariants.{Lb, Lh, Lw, Lbu, Lhu}
use Rattle.sq_isa.specs.declared.instructions.StoreKind.{StoreKind}
use Rattle.sq_isa.specs.declared.instructions.StoreKind.TheVariants.{Sb, Sh, Sw}
use Rattle.sq_isa.specs.declared.instructions.ImmOp.{ImmOp}
use Rattle.sq_isa.specs.declared.instructions.ImmOp.TheVariants.{Addi, Slti, Sltiu, Xori, Ori, Andi, Slli, Srli, Srai}
use Rattle.sq_isa.specs.declared.instructions.RegOp.{RegOp}
use Rattle.sq_isa.specs.declared.instructions.RegOp.TheVariants.{Add, Sub, Sll, Slt, Sltu, Xor, Srl, Sra, Or, And, Mul, Mulh, Mulhsu, Mulhu, Div, Divu, Rem, Remu}

-- format R: the opcode, rd, funct3, rs1, rs2 and funct7, from bit 0 up
abbrev pub r_word : ℕ → ℕ → ℕ → ℕ → ℕ → ℕ → ℕ
r_word op d f3 a b f7 = op + d * 2 ^ 7 + f3 * 2 ^ 12 + a * 2 ^ 15 + b * 2 ^ 20 + f7 * 2 ^ 25

-- formats I, S and B, whose immediate stands in the place of other fields
abbrev pub i_word : ℕ → ℕ → ℕ → ℕ → ℤ → ℕ
i_word op d f3 a imm = r_word op d f3 a (bits (unsigned imm) 4 0) (bits (unsigned imm) 11 5)

abbrev pub s_word : ℕ → ℕ → ℕ → ℕ → ℤ → ℕ
s_word op f3 a b imm = r_word op (bits (unsigned imm) 4 0) f3 a b (bits (unsigned imm) 11 5)

abbrev pub b_word : ℕ → ℕ → ℕ → ℕ → ℤ → ℕ
b_word op f3 a b imm =
    r_word op (bits (unsigned imm) 4 1 * 2 + bits (unsigned imm) 11 11) f3 a b (bits (unsigned imm) 12 12 * 2 ^ 6 + bits (unsigned imm) 10 5)

-- formats U and J
abbrev pub u_word : ℕ → ℕ → ℕ → ℕ
u_word op d upper = op + d * 2 ^ 7 + upper * 2 ^ 12

abbrev pub j_word : ℕ → ℕ → ℤ → ℕ
j_word op d imm =
    u_word op d (bits (unsigned imm) 20 20 * 2 ^ 19 + bits (unsigned imm) 10 1 * 2 ^ 9 + bits (unsigned imm) 11 11 * 2 ^ 8 + bits (unsigned imm) 19 12)

-- funct3 of a branch, a load and a store
abbrev pub condition_code : Cond → ℕ
condition_code Beq = 0b000
condition_code Bne = 0b001
condition_code Blt = 0b100
condition_code Bge = 0b101
condition_code Bltu = 0b110
condition_code Bgeu = 0b111

abbrev pub load_code : LoadKind → ℕ
load_code Lb = 0b000
load_code Lh = 0b001
load_code Lw = 0b010
load_code Lbu = 0b100
load_code Lhu = 0b101

abbrev pub store_code : StoreKind → ℕ
store_code Sb = 0b000
store_code Sh = 0b001
store_code Sw = 0b010

-- OP-IMM
abbrev pub op_imm_word : ImmOp → ℕ → ℕ → ℤ → ℕ
op_imm_word Addi d a imm = i_word 0b0010011 d 0b000 a imm
op_imm_word Slti d a imm = i_word 0b0010011 d 0b010 a imm
op_imm_word Sltiu d a imm = i_word 0b0010011 d 0b011 a imm
op_imm_word Xori d a imm = i_word 0b0010011 d 0b100 a imm
op_imm_word Ori d a imm = i_word 0b0010011 d 0b110 a imm
op_imm_word Andi d a imm = i_word 0b0010011 d 0b111 a imm
op_imm_word Slli d a imm = r_word 0b0010011 d 0b001 a (unsigned imm) 0b0000000
op_imm_word Srli d a imm = r_word 0b0010011 d 0b101 a (unsigned imm) 0b0000000
op_imm_word Srai d a imm = r_word 0b0010011 d 0b101 a (unsigned imm) 0b0100000

-- funct7 and funct3 of an operation on two registers
abbrev pub operation_codes : RegOp → ℕ × ℕ
operation_codes Add = (0b0000000, 0b000)
operation_codes Sub = (0b0100000, 0b000)
operation_codes Sll = (0b0000000, 0b001)
operation_codes Slt = (0b0000000, 0b010)
operation_codes Sltu = (0b0000000, 0b011)
operation_codes Xor = (0b0000000, 0b100)
operation_codes Srl = (0b0000000, 0b101)
operation_codes Sra = (0b0100000, 0b101)
operation_codes Or = (0b0000000, 0b110)
operation_codes And = (0b0000000, 0b111)
operation_codes Mul = (0b0000001, 0b000)
operation_codes Mulh = (0b0000001, 0b001)
operation_codes Mulhsu = (0b0000001, 0b010)
operation_codes Mulhu = (0b0000001, 0b011)
operation_codes Div = (0b0000001, 0b100)
operation_codes Divu = (0b0000001, 0b101)
operation_codes Rem = (0b0000001, 0b110)
operation_codes Remu = (0b0000001, 0b111)

-- the word of an instruction that fits
unfoldable pub word_of : Insn → ℕ
word_of (Lui d upper) = u_word 0b0110111 d upper
word_of (Auipc d upper) = u_word 0b0010111 d upper
word_of (Jal d offset) = j_word 0b1101111 d offset
word_of (Jalr d a offset) = i_word 0b1100111 d 0b000 a offset
word_of (Branch c a b offset) = b_word 0b1100011 (condition_code c) a b offset
word_of (Load kind d a offset) = i_word 0b0000011 d (load_code kind) a offset
word_of (Store kind a b offset) = s_word 0b0100011 (store_code kind) a b offset
word_of (OpImm op d a imm) = op_imm_word op d a imm
word_of (Op op d a b) = r_word 0b0110011 d (operation_codes op).1 a b (operation_codes op).0
word_of (Fence word) = word
word_of Ecall = 0x00000073
word_of Ebreak = 0x00100073
word_of (Unimp word) = word
word_of (Atomic op order d a b) = r_word 0b0101111 d 0b010 a b (atomic_code op * 2 ^ 2 + order)
