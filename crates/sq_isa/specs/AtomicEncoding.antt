-- The code of an atomic operation on words, from the operation's side.
use Rattle.std.specs.Prelude.{ℕ}
use Rattle.sq_isa.specs.declared.instructions.AtomicOp.{AtomicOp}
use Rattle.sq_isa.specs.declared.instructions.AtomicOp.TheVariants.{Lr, Sc, Swap, Add, Xor, And, Or, Min, Max, MinU, MaxU}

-- the upper five bits
abbrev pub atomic_code : AtomicOp → ℕ
atomic_code Lr = 0b00010
atomic_code Sc = 0b00011
atomic_code Swap = 0b00001
atomic_code Add = 0b00000
atomic_code Xor = 0b00100
atomic_code And = 0b01100
atomic_code Or = 0b01000
atomic_code Min = 0b10000
atomic_code Max = 0b10100
atomic_code MinU = 0b11000
atomic_code MaxU = 0b11100
