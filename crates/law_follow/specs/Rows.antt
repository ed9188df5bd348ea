-- What each instruction does on tagged values: the monitor's table, a row an instruction, over operands. An operand
-- is the value of a source register, and no row but that of `sltu rd,x0,rs` sees a register.
use Rattle.std.specs.Prelude.{ℕ, ℤ, ◌+◌, slice_index_or, if◌then◌else◌}
use Rattle.sq_isa.specs.Words.{wrapped, unsigned, upper_word}
use Rattle.sq_isa.specs.Uses.{sources_of}
use Rattle.sq_isa.specs.declared.instructions.Insn.{Insn}
use Rattle.sq_isa.specs.declared.instructions.Insn.TheVariants.{Lui, Load, Store as StoreInsn, OpImm, Op, Fence, Ecall, Atomic}
use Rattle.sq_isa.specs.declared.instructions.ImmOp.TheVariants.{Addi}
use Rattle.law_runs.specs.Runs.{Broke}
use Rattle.sq_graph.specs.Lines.{AddressHalf, Plain, Upper, Lower}
use Rattle.law_follow.specs.declared.kind.Kind.TheVariants.{Arithmetic, Half, Address}
use Rattle.law_follow.specs.Values.{Code, Part, Value, Num, Tagged}
use Rattle.law_follow.specs.Settings.{Setting, Store}
use Rattle.law_follow.specs.Arithmetic.{imm_value, op_value, is_upper_half}
use Rattle.law_follow.specs.Accesses.{Step, gives, gives_or_breaks, load_at, store_at, atomic_at}
use Rattle.law_follow.specs.Calls.{call_row}

-- the values of the source registers, in their order
abbrev pub Operands : Type 0
Operands = ℕ → Value

-- the register of an operand, x0 where there is none
abbrev pub source : Insn → ℕ → ℕ
source insn i = slice_index_or (sources_of insn) i 0

-- Never taken: a word with such a half is refused where it is reached, a run that hasn't broken fetches reached words
-- only, and the rules of a graph exclude such items. An upper half stands in `lui` and `auipc` alone.
abbrev pub no_row : Step
no_row = Broke Half

-- goes on with a number; a tagged address breaks
abbrev pub at_number : Value → (ℕ → Step) → Step
at_number (Num x) go = go x
at_number (Tagged tag) go = Broke Address

-- goes on where the operand is the upper half that belongs to this lower half
abbrev pub at_upper_half : ℕ → ℤ → Value → Step → Step
at_upper_half n imm value go = if is_upper_half n imm value then go else Broke Half

-- the address of a name: on a file a number where it isn't in text
abbrev pub address_value : Setting → ℕ → Value
address_value s n = if s.is_code n then Tagged (Code n) else Num n

-- instructions whose immediate is the lower half of an address
abbrev pub lower_row : Setting → ℕ → Insn → Operands → Store → Step
lower_row s n (OpImm Addi rd rs imm) operand store = at_upper_half n imm (operand 0) (gives (address_value s n) store)
lower_row s n (Load kind rd rs imm) operand store = at_upper_half n imm (operand 0) (load_at s kind n store)
lower_row s n (StoreInsn kind rs src imm) operand store = at_upper_half n imm (operand 0) (store_at s kind (operand 1) n store)
lower_row s n insn operand store = no_row

-- instructions without a half of an address
abbrev pub plain_row : Setting → Insn → Operands → Store → Step
plain_row s (Lui rd upper) operand store = gives (Num (upper_word upper)) store
plain_row s (OpImm op rd rs imm) operand store = gives_or_breaks Arithmetic (imm_value s op imm (operand 0)) store
plain_row s (Op op rd a b) operand store = gives_or_breaks Arithmetic (op_value s op a (operand 0) (operand 1)) store
plain_row s (Load kind rd rs imm) operand store =
    at_number (operand 0) (λ x. load_at s kind (wrapped (x + unsigned imm)) store)
plain_row s (StoreInsn kind rs src imm) operand store =
    at_number (operand 0) (λ x. store_at s kind (operand 1) (wrapped (x + unsigned imm)) store)
plain_row s (Fence word) operand store = gives (Num 0) store
plain_row s Ecall operand store =
    call_row s (record { a0 = operand 0; a1 = operand 1; a2 = operand 2; a7 = operand 3 }) store
plain_row s (Atomic op order rd rs src) operand store = at_number (operand 0) (λ x. atomic_at s op x (operand 1) store)
plain_row s insn operand store = no_row

-- the table of instructions that go on to the next one: a value for the destination, and the store
abbrev pub row_of : Setting → AddressHalf → Insn → Operands → Store → Step
row_of s Plain insn operand store = plain_row s insn operand store
row_of s (Upper n word) insn operand store = gives (Tagged (Part n word)) store
row_of s (Lower n) insn operand store = lower_row s n insn operand store
