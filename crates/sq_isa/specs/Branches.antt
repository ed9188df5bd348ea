-- What a branch tests, one row a condition, as in the RISC-V manual's chapter on RV32I.
use Rattle.std.specs.Prelude.{ℕ, Bool, not, ◌==◌, nat_lt, nat_le, int_lt, int_le}
use Rattle.sq_isa.specs.Words.{signed}
use Rattle.sq_isa.specs.declared.instructions.Cond.{Cond}
use Rattle.sq_isa.specs.declared.instructions.Cond.TheVariants.{Beq, Bne, Blt, Bge, Bltu, Bgeu}

-- whether a branch is taken at two words
abbrev pub taken_of : Cond → ℕ → ℕ → Bool
taken_of Beq a b = a == b
taken_of Bne a b = not (a == b)
taken_of Blt a b = int_lt (signed a) (signed b)
taken_of Bge a b = int_le (signed b) (signed a)
taken_of Bltu a b = nat_lt a b
taken_of Bgeu a b = nat_le b a

-- the condition that is taken where this one isn't
abbrev pub inverse_of : Cond → Cond
inverse_of Beq = Bne
inverse_of Bne = Beq
inverse_of Blt = Bge
inverse_of Bge = Blt
inverse_of Bltu = Bgeu
inverse_of Bgeu = Bltu
