-- The state of the plain machine, and how it is read and written.
use Rattle.std.specs.Prelude.{ℕ, ℤ, ◌+◌, List, drop, Option, None, option_map, unwrap_or, if◌then◌else◌, []}
use Rattle.sq_isa.specs.Words.{wrapped, unsigned}
use Rattle.sq_isa.specs.Accesses.{bytes_number, is_aligned}
use Rattle.sq_isa.specs.Registers.{written}
use Rattle.sq_memory.specs.Cells.{Cells, cells_from, with_cells}

-- the program counter, the 32 registers, what stands in memory, the input that is left, and the reservation
-- of LR: none or one address
pub record State : Type 0 where
  pub pc : ℕ
  pub registers : ℕ → ℕ
  pub memory : Cells ℕ
  pub input : List ℕ
  pub reservation : Option ℕ

-- the number in the n bytes from x on, where all of them are in memory
unfoldable pub number_at : Cells ℕ → ℕ → ℕ → Option ℕ
number_at m x n = option_map bytes_number (cells_from m x n)

-- the n bytes from x on
abbrev pub bytes_at : Cells ℕ → ℕ → ℕ → List ℕ
bytes_at m x n = unwrap_or (cells_from m x n) []

-- the number at an address that is a multiple of its width, where all of its bytes are in memory
abbrev pub aligned_number : Cells ℕ → ℕ → ℕ → Option ℕ
aligned_number m x width = if is_aligned x width then number_at m x width else None

unfoldable pub with_register : ℕ → ℕ → State → State
with_register r v s = record s { registers = written r v s.registers }

-- these bytes in memory from x on
unfoldable pub with_bytes : ℕ → List ℕ → State → State
with_bytes x bytes s = record s { memory = with_cells s.memory x bytes }

unfoldable pub with_reservation : Option ℕ → State → State
with_reservation reservation s = record s { reservation = reservation }

-- without the next `count` bytes of the input
unfoldable pub without_input : ℕ → State → State
without_input count s = record s { input = drop count s.input }

-- at another instruction
unfoldable pub jump : ℕ → State → State
jump target s = record s { pc = target }

-- the address of the instruction behind this one
abbrev pub next_pc : State → ℕ
next_pc s = wrapped (s.pc + 4)

-- at the instruction behind this one
abbrev pub advance : State → State
advance s = jump (next_pc s) s

-- rd has a value, and the instruction behind this one follows
abbrev pub finish : ℕ → ℕ → State → State
finish rd v s = jump (next_pc s) (with_register rd v s)

-- the address that a register and an offset give
abbrev pub address_of : ℕ → ℤ → State → ℕ
address_of rs offset s = wrapped (s.registers rs + unsigned offset)

-- the address that an offset from this instruction gives
abbrev pub target_of : ℤ → State → ℕ
target_of offset s = wrapped (s.pc + unsigned offset)
