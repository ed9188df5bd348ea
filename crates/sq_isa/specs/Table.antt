-- The instruction table: the instruction that a word is, by the RISC-V manual's listings of RV32I, RV32M and
-- RV32A. It has one row an opcode, and a list in `Codes` where instructions share one.
use Rattle.std.specs.Prelude.{ℕ, pos, Option, Some, None, ◌==◌, ◌||◌, ◌&&◌, not, if◌then◌else◌}
use Rattle.std.specs.Option.{option_map}
use Rattle.sq_isa.specs.Fields.{bits, opcode, rd, funct3, rs1, rs2, funct7, immediate_i, immediate_s, immediate_b, immediate_u, immediate_j}
use Rattle.sq_isa.specs.Codes.{coded_by, conditions, loads, stores, immediate_operations, shifts, arithmetic_shifts, operations, alternate_operations, multiplications}
use Rattle.sq_isa.specs.AtomicCodes.{atomic_operations}
use Rattle.sq_isa.specs.declared.instructions.Insn.{Insn}
use Rattle.sq_isa.specs.declared.instructions.Insn.TheVariants.{Lui, Auipc, Jal, Jalr, Branch, Load, Store, OpImm, Op, Fence, Ecall, Ebreak, Unimp, Atomic}
use Rattle.sq_isa.specs.declared.instructions.ImmOp.{ImmOp}
use Rattle.sq_isa.specs.declared.instructions.RegOp.{RegOp}

-- 1100111 JALR
abbrev pub jalr_of : ℕ → Option Insn
jalr_of word = if funct3 word == 0b000 then Some (Jalr (rd word) (rs1 word) (immediate_i word)) else None

-- 1100011 BRANCH
abbrev pub branch_of : ℕ → Option Insn
branch_of word =
    option_map (λ c. Branch c (rs1 word) (rs2 word) (immediate_b word)) (coded_by conditions (funct3 word))

-- 0000011 LOAD
abbrev pub load_of : ℕ → Option Insn
load_of word = option_map (λ kind. Load kind (rd word) (rs1 word) (immediate_i word)) (coded_by loads (funct3 word))

-- 0100011 STORE
abbrev pub store_of : ℕ → Option Insn
store_of word =
    option_map (λ kind. Store kind (rs1 word) (rs2 word) (immediate_s word)) (coded_by stores (funct3 word))

-- the shift of a word of OP-IMM whose funct3 is 001 or 101
abbrev pub shift_operation_of : ℕ → Option ImmOp
shift_operation_of word =
    if funct7 word == 0b0000000 then coded_by shifts (funct3 word)
    else (if funct7 word == 0b0100000 then coded_by arithmetic_shifts (funct3 word) else None)

-- 0010011 OP-IMM. The distance of a shift stands where rs2 stands in other formats
abbrev pub op_imm_of : ℕ → Option Insn
op_imm_of word =
    if funct3 word == 0b001 || funct3 word == 0b101
    then option_map (λ op. OpImm op (rd word) (rs1 word) (pos (rs2 word))) (shift_operation_of word)
    else option_map (λ op. OpImm op (rd word) (rs1 word) (immediate_i word)) (coded_by immediate_operations (funct3 word))

-- the operation of a word of OP
abbrev pub operation_of : ℕ → Option RegOp
operation_of word =
    if funct7 word == 0b0000000 then coded_by operations (funct3 word)
    else (if funct7 word == 0b0100000 then coded_by alternate_operations (funct3 word)
    else (if funct7 word == 0b0000001 then coded_by multiplications (funct3 word) else None))

-- 0110011 OP
abbrev pub op_of : ℕ → Option Insn
op_of word = option_map (λ op. Op op (rd word) (rs1 word) (rs2 word)) (operation_of word)

-- 0001111 MISC-MEM: FENCE, whose other bits are kept in its word
abbrev pub fence_of : ℕ → Option Insn
fence_of word = if funct3 word == 0b000 then Some (Fence word) else None

-- 1110011 SYSTEM, and the word 0xc0001073
abbrev pub system_of : ℕ → Option Insn
system_of word =
    if word == 0x00000073 then Some Ecall
    else (if word == 0x00100073 then Some Ebreak
    else (if word == 0xc0001073 then Some (Unimp 0xc0001073) else None))

-- bits 26 and 25: acquire and release
abbrev pub order_of : ℕ → ℕ
order_of word = bits word 26 25

abbrev pub funct5 : ℕ → ℕ
funct5 word = bits word 31 27

-- 0101111 AMO on words. An LR with another rs2 than x0 has no row
abbrev pub amo_of : ℕ → Option Insn
amo_of word =
    if funct3 word == 0b010
    then (if funct5 word == 0b00010 && not (rs2 word == 0) then None
    else option_map (λ op. Atomic op (order_of word) (rd word) (rs1 word) (rs2 word)) (coded_by atomic_operations (funct5 word)))
    else None

-- 0000000: the word 0
abbrev pub zero_of : ℕ → Option Insn
zero_of word = if word == 0x00000000 then Some (Unimp 0) else None

-- the instruction of a word, or none
unfoldable pub insn_of : ℕ → Option Insn
insn_of word =
    if opcode word == 0b0110111 then Some (Lui (rd word) (immediate_u word))
    else (if opcode word == 0b0010111 then Some (Auipc (rd word) (immediate_u word))
    else (if opcode word == 0b1101111 then Some (Jal (rd word) (immediate_j word))
    else (if opcode word == 0b1100111 then jalr_of word
    else (if opcode word == 0b1100011 then branch_of word
    else (if opcode word == 0b0000011 then load_of word
    else (if opcode word == 0b0100011 then store_of word
    else (if opcode word == 0b0010011 then op_imm_of word
    else (if opcode word == 0b0110011 then op_of word
    else (if opcode word == 0b0001111 then fence_of word
    else (if opcode word == 0b1110011 then system_of word
    else (if opcode word == 0b0101111 then amo_of word
    else (if opcode word == 0b0000000 then zero_of word
    else None))))))))))))
