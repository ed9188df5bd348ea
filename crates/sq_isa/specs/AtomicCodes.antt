-- The codes of the atomic operations on words in the RISC-V manual's listing of RV32A.
use Rattle.std.specs.Prelude.{ℕ, List, [], ◌∷◌}
use Rattle.sq_isa.specs.declared.instructions.AtomicOp.{AtomicOp}
use Rattle.sq_isa.specs.declared.instructions.AtomicOp.TheVariants.{Lr, Sc, Swap, Add, Xor, And, Or, Min, Max, MinU, MaxU}

-- AMO with funct3 010, by the upper five bits
abbrev pub atomic_operations : List (ℕ × AtomicOp)
atomic_operations =
    (0b00000, Add) ∷ (0b00001, Swap) ∷ (0b00010, Lr) ∷ (0b00011, Sc) ∷ (0b00100, Xor) ∷ (0b01000, Or) ∷ (0b01100, And) ∷
    (0b10000, Min) ∷ (0b10100, Max) ∷ (0b11000, MinU) ∷ (0b11100, MaxU) ∷ []
