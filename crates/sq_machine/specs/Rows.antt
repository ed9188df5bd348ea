-- What each instruction does, one row an instruction, in the terms of the RISC-V manual's chapters on RV32I, M
-- and A. System calls, misaligned accesses and halts are this project's own.
use Rattle.std.specs.Prelude.{ℕ, ℤ, ◌+◌, Bool, true, false, ◌&&◌, Option, Some, None, option_map, if◌then◌else◌}
use Rattle.byteorder.specs.Endian.{little_bytes}
use Rattle.sq_isa.specs.Words.{wrapped, upper_word, even}
use Rattle.sq_isa.specs.Accesses.{load_width, store_width, extended, is_aligned, is_reserved}
use Rattle.sq_isa.specs.Values.{value_of, value_imm_of}
use Rattle.sq_isa.specs.Branches.{taken_of}
use Rattle.sq_isa.specs.Atomics.{atomic_value_of}
use Rattle.sq_isa.specs.declared.instructions.Insn.{Insn}
use Rattle.sq_isa.specs.declared.instructions.Insn.TheVariants.{Lui, Auipc, Jal, Jalr, Branch, Load, Store, OpImm, Op, Fence, Ecall, Ebreak, Unimp, Atomic}
use Rattle.sq_isa.specs.declared.instructions.Cond.{Cond}
use Rattle.sq_isa.specs.declared.instructions.RegOp.{RegOp}
use Rattle.sq_isa.specs.declared.instructions.ImmOp.{ImmOp}
use Rattle.sq_isa.specs.declared.instructions.LoadKind.{LoadKind}
use Rattle.sq_isa.specs.declared.instructions.StoreKind.{StoreKind}
use Rattle.sq_isa.specs.declared.instructions.AtomicOp.{AtomicOp}
use Rattle.sq_isa.specs.declared.instructions.AtomicOp.TheVariants.{Lr, Sc, Swap, Add, Xor, And, Or, Min, Max, MinU, MaxU}
use Rattle.law_runs.specs.Runs.{Next, Went, Ended}
use Rattle.sq_memory.specs.Cells.{Cells}
use Rattle.sq_system.specs.declared.event.Event.{Event}
use Rattle.sq_system.specs.declared.event.Halt.{Halt}
use Rattle.sq_system.specs.declared.event.Halt.TheVariants.{Illegal, Breakpoint, Load as LoadFault, Store as StoreFault}
use Rattle.sq_system.specs.World.{World, is_writable, is_range}
use Rattle.sq_machine.specs.State.{State, aligned_number, with_register, with_bytes, with_reservation, jump, next_pc, advance, finish, address_of, target_of}
use Rattle.sq_machine.specs.Calls.{call_row}

abbrev pub lui_row : ℕ → ℕ → State → Next Event Halt ⊥ State
lui_row rd upper s = Went None (finish rd (upper_word upper) s)

abbrev pub auipc_row : ℕ → ℕ → State → Next Event Halt ⊥ State
auipc_row rd upper s = Went None (finish rd (wrapped (s.pc + upper_word upper)) s)

abbrev pub jal_row : ℕ → ℤ → State → Next Event Halt ⊥ State
jal_row rd offset s = Went None (jump (target_of offset s) (with_register rd (next_pc s) s))

-- the target is read before the link is written
abbrev pub jalr_row : ℕ → ℕ → ℤ → State → Next Event Halt ⊥ State
jalr_row rd rs offset s = Went None (jump (even (address_of rs offset s)) (with_register rd (next_pc s) s))

abbrev pub branch_row : Cond → ℕ → ℕ → ℤ → State → Next Event Halt ⊥ State
branch_row c a b offset s =
    Went None (if taken_of c (s.registers a) (s.registers b) then jump (target_of offset s) s else advance s)

abbrev pub loaded : LoadKind → Cells ℕ → ℕ → Option ℕ
loaded kind m x = option_map (extended kind) (aligned_number m x (load_width kind))

abbrev pub load_step : ℕ → ℕ → State → Option ℕ → Next Event Halt ⊥ State
load_step x rd s None = Ended (LoadFault x)
load_step x rd s (Some v) = Went None (finish rd v s)

abbrev pub load_row : LoadKind → ℕ → ℕ → ℤ → State → Next Event Halt ⊥ State
load_row kind rd rs offset s =
    load_step (address_of rs offset s) rd s (loaded kind s.memory (address_of rs offset s))

-- the address is a multiple of the width, and all of the bytes there are writable
abbrev pub may_store : World → ℕ → ℕ → Bool
may_store w x width = is_aligned x width && is_range (is_writable w) x width

abbrev pub store_row : World → StoreKind → ℕ → ℕ → ℤ → State → Next Event Halt ⊥ State
store_row w kind rs src offset s =
    if may_store w (address_of rs offset s) (store_width kind)
    then Went None (advance (with_bytes (address_of rs offset s) (little_bytes (store_width kind) (s.registers src)) s))
    else Ended (StoreFault (address_of rs offset s))

abbrev pub op_imm_row : ImmOp → ℕ → ℕ → ℤ → State → Next Event Halt ⊥ State
op_imm_row op rd rs imm s = Went None (finish rd (value_imm_of op (s.registers rs) imm) s)

abbrev pub op_row : RegOp → ℕ → ℕ → ℕ → State → Next Event Halt ⊥ State
op_row op rd a b s = Went None (finish rd (value_of op (s.registers a) (s.registers b)) s)

-- LR: the word, and a reservation of its address
abbrev pub lr_step : ℕ → ℕ → State → Option ℕ → Next Event Halt ⊥ State
lr_step x rd s None = Ended (LoadFault x)
lr_step x rd s (Some v) = Went None (finish rd v (with_reservation (Some x) s))

abbrev pub lr_row : ℕ → ℕ → State → Next Event Halt ⊥ State
lr_row rd rs s = lr_step (s.registers rs) rd s (aligned_number s.memory (s.registers rs) 4)

-- SC where its address is reserved: src is stored and rd is 0; else nothing is stored and rd is 1. The
-- reservation is gone
abbrev pub sc_step : ℕ → ℕ → ℕ → State → Bool → State
sc_step x rd src s true = finish rd 0 (with_bytes x (little_bytes 4 src) (with_reservation None s))
sc_step x rd src s false = finish rd 1 (with_reservation None s)

abbrev pub sc_row : World → ℕ → ℕ → ℕ → State → Next Event Halt ⊥ State
sc_row w rd rs src s =
    if may_store w (s.registers rs) 4
    then Went None (sc_step (s.registers rs) rd (s.registers src) s (is_reserved (s.registers rs) s.reservation))
    else Ended (StoreFault (s.registers rs))

-- the others: the result is stored, and rd has the old word
abbrev pub amo_step : AtomicOp → ℕ → ℕ → ℕ → State → Option ℕ → Next Event Halt ⊥ State
amo_step op x rd src s None = Ended (StoreFault x)
amo_step op x rd src s (Some old) = Went None (finish rd old (with_bytes x (little_bytes 4 (atomic_value_of op old src)) s))

abbrev pub amo_row : World → AtomicOp → ℕ → ℕ → ℕ → State → Next Event Halt ⊥ State
amo_row w op rd rs src s =
    if may_store w (s.registers rs) 4
    then amo_step op (s.registers rs) rd (s.registers src) s (aligned_number s.memory (s.registers rs) 4)
    else Ended (StoreFault (s.registers rs))

-- the order of an atomic operation has no effect
abbrev pub atomic_row : World → AtomicOp → ℕ → ℕ → ℕ → State → Next Event Halt ⊥ State
atomic_row w Lr rd rs src s = lr_row rd rs s
atomic_row w Sc rd rs src s = sc_row w rd rs src s
atomic_row w Swap rd rs src s = amo_row w Swap rd rs src s
atomic_row w Add rd rs src s = amo_row w Add rd rs src s
atomic_row w Xor rd rs src s = amo_row w Xor rd rs src s
atomic_row w And rd rs src s = amo_row w And rd rs src s
atomic_row w Or rd rs src s = amo_row w Or rd rs src s
atomic_row w Min rd rs src s = amo_row w Min rd rs src s
atomic_row w Max rd rs src s = amo_row w Max rd rs src s
atomic_row w MinU rd rs src s = amo_row w MinU rd rs src s
atomic_row w MaxU rd rs src s = amo_row w MaxU rd rs src s

-- the table
abbrev pub row_of : World → State → Insn → Next Event Halt ⊥ State
row_of w s (Lui rd upper) = lui_row rd upper s
row_of w s (Auipc rd upper) = auipc_row rd upper s
row_of w s (Jal rd offset) = jal_row rd offset s
row_of w s (Jalr rd rs offset) = jalr_row rd rs offset s
row_of w s (Branch c a b offset) = branch_row c a b offset s
row_of w s (Load kind rd rs offset) = load_row kind rd rs offset s
row_of w s (Store kind rs src offset) = store_row w kind rs src offset s
row_of w s (OpImm op rd rs imm) = op_imm_row op rd rs imm s
row_of w s (Op op rd a b) = op_row op rd a b s
row_of w s (Fence word) = Went None (advance s)
row_of w s Ecall = call_row w s
row_of w s Ebreak = Ended Breakpoint
row_of w s (Unimp word) = Ended Illegal
row_of w s (Atomic op order rd rs src) = atomic_row w op rd rs src s
