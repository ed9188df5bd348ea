-- Operations and comparisons on tagged values. Where there is no answer, the run breaks.
use Rattle.std.specs.Prelude.{ℕ, ℤ, pos, ◌+◌, Bool, true, false, not, ◌==◌, ◌&&◌, Option, Some, None, if◌then◌else◌}
use Rattle.std.specs.Ordering.{int_eq}
use Rattle.sq_isa.specs.Values.{value_of, value_imm_of}
use Rattle.sq_isa.specs.Branches.{taken_of}
use Rattle.sq_isa.specs.Words.{wrapped, unsigned}
use Rattle.sq_isa.specs.Atomics.{atomic_value_of}
use Rattle.sq_isa.specs.declared.instructions.Cond.{Cond}
use Rattle.sq_isa.specs.declared.instructions.Cond.TheVariants.{Beq, Bne, Blt, Bge, Bltu, Bgeu}
use Rattle.sq_isa.specs.declared.instructions.RegOp.{RegOp}
use Rattle.sq_isa.specs.declared.instructions.RegOp.TheVariants.{Sltu}
use Rattle.sq_isa.specs.declared.instructions.ImmOp.{ImmOp}
use Rattle.sq_isa.specs.declared.instructions.ImmOp.TheVariants.{Addi, Sltiu}
use Rattle.sq_isa.specs.declared.instructions.AtomicOp.{AtomicOp}
use Rattle.sq_isa.specs.declared.instructions.AtomicOp.TheVariants.{Swap}
use Rattle.law_follow.specs.Values.{Tag, Code, Part, Value, Num, Tagged}
use Rattle.law_follow.specs.Settings.{Setting, is_in_text}

-- no address of code is 0: address 0 isn't in text
abbrev pub zero_is_outside_text : Setting → Bool
zero_is_outside_text s = not (is_in_text s 0)

-- `addi rd,rs,0` copies a tagged value, and `sltiu rd,rs,1` tells that an address isn't 0
abbrev pub tagged_imm : Setting → ImmOp → ℤ → Tag → Option Value
tagged_imm s Addi imm tag = if int_eq imm (pos 0) then Some (Tagged tag) else None
tagged_imm s Sltiu imm (Code n) = if int_eq imm (pos 1) && zero_is_outside_text s then Some (Num 0) else None
tagged_imm s op imm tag = None

abbrev pub imm_value : Setting → ImmOp → ℤ → Value → Option Value
imm_value s op imm (Num x) = Some (Num (value_imm_of op x imm))
imm_value s op imm (Tagged tag) = tagged_imm s op imm tag

-- `sltu rd,x0,rs` tells that an address isn't 0
abbrev pub tagged_op : Setting → RegOp → ℕ → Tag → Option Value
tagged_op s Sltu a (Code n) = if a == 0 && zero_is_outside_text s then Some (Num 1) else None
tagged_op s op a tag = None

-- `a` is the first source register
abbrev pub op_value : Setting → RegOp → ℕ → Value → Value → Option Value
op_value s op a (Num x) (Num y) = Some (Num (value_of op x y))
op_value s op a (Num x) (Tagged tag) = tagged_op s op a tag
op_value s op a (Tagged tag) v = None

-- what an atomic operation that reads and writes leaves in memory
abbrev pub atomic_result : AtomicOp → Value → Value → Option Value
atomic_result Swap old src = Some src
atomic_result op (Num old) (Num src) = Some (Num (atomic_value_of op old src))
atomic_result op (Num old) (Tagged tag) = None
atomic_result op (Tagged tag) src = None

-- an address of code against a number: it isn't equal to 0
abbrev pub taken_against_code : Setting → Cond → ℕ → Option Bool
taken_against_code s Beq x = if x == 0 && zero_is_outside_text s then Some false else None
taken_against_code s Bne x = if x == 0 && zero_is_outside_text s then Some true else None
taken_against_code s Blt x = None
taken_against_code s Bge x = None
taken_against_code s Bltu x = None
taken_against_code s Bgeu x = None

-- whether a branch is taken
abbrev pub is_taken : Setting → Cond → Value → Value → Option Bool
is_taken s cond (Num x) (Num y) = Some (taken_of cond x y)
is_taken s cond (Num x) (Tagged (Code n)) = taken_against_code s cond x
is_taken s cond (Num x) (Tagged (Part n w)) = None
is_taken s cond (Tagged (Code n)) (Num y) = taken_against_code s cond y
is_taken s cond (Tagged (Part n w)) (Num y) = None
is_taken s cond (Tagged tag) (Tagged other) = None

-- on a file the word of an upper half plus the immediate must be the address
abbrev pub word_fits : Option ℕ → ℕ → ℤ → Bool
word_fits None n imm = true
word_fits (Some w) n imm = wrapped (w + unsigned imm) == n

-- the value is the upper half that belongs to the lower half of this name in the immediate
abbrev pub is_upper_half : ℕ → ℤ → Value → Bool
is_upper_half n imm (Num x) = false
is_upper_half n imm (Tagged (Code m)) = false
is_upper_half n imm (Tagged (Part m w)) = m == n && word_fits w n imm
