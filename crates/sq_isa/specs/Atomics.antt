-- What an atomic operation stores, one row an operation, as in the RISC-V manual's chapter on A.
use Rattle.std.specs.Prelude.{ℕ, ◌+◌, bit_and, bit_or, bit_xor, int_lt, nat_lt, if◌then◌else◌}
use Rattle.sq_isa.specs.Words.{signed, wrapped}
use Rattle.sq_isa.specs.declared.instructions.AtomicOp.{AtomicOp}
use Rattle.sq_isa.specs.declared.instructions.AtomicOp.TheVariants.{Lr, Sc, Swap, Add, Xor, And, Or, Min, Max, MinU, MaxU}

-- the word that an atomic operation leaves in memory, where it held `old` and the source register has `src`.
-- LR leaves what is there; SC, where it stores, stores its source.
abbrev pub atomic_value_of : AtomicOp → ℕ → ℕ → ℕ
atomic_value_of Lr old src = old
atomic_value_of Sc old src = src
atomic_value_of Swap old src = src
atomic_value_of Add old src = wrapped (old + src)
atomic_value_of Xor old src = bit_xor old src
atomic_value_of And old src = bit_and old src
atomic_value_of Or old src = bit_or old src
atomic_value_of Min old src = if int_lt (signed src) (signed old) then src else old
atomic_value_of Max old src = if int_lt (signed old) (signed src) then src else old
atomic_value_of MinU old src = if nat_lt src old then src else old
atomic_value_of MaxU old src = if nat_lt old src then src else old
