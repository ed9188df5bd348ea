-- A word with the fields of an atomic instruction is read as it.
use Rattle.std.proofs.Common.{◌≡◌, ℕ, ◌<◌, Some, refl, arith}
use Rattle.sq_isa.specs.Table.{amo_of}
use Rattle.sq_isa.specs.Ranges.{SourceFits}
use Rattle.sq_isa.specs.AtomicEncoding.{atomic_code}
use Rattle.sq_isa.proofs.Reading.{IsRow}
use Rattle.sq_isa.specs.declared.instructions.Insn.TheVariants.{Atomic}
use Rattle.sq_isa.specs.declared.instructions.AtomicOp.{AtomicOp}
use Rattle.sq_isa.specs.declared.instructions.AtomicOp.TheVariants.{Lr, Sc, Swap, Add, Xor, And, Or, Min, Max, MinU, MaxU}

pub amo_from_row : (w : ℕ) (op : AtomicOp) (o d a b : ℕ) → IsRow (Atomic op o d a b) w → amo_of w ≡ Some (Atomic op o d a b)
amo_from_row w Lr o d a b r = let source = r.7 in rw (r.1, r.2, r.3, r.4, r.5, r.6, source) refl
amo_from_row w Sc o d a b r = rw (r.1, r.2, r.3, r.4, r.5, r.6) refl
amo_from_row w Swap o d a b r = rw (r.1, r.2, r.3, r.4, r.5, r.6) refl
amo_from_row w Add o d a b r = rw (r.1, r.2, r.3, r.4, r.5, r.6) refl
amo_from_row w Xor o d a b r = rw (r.1, r.2, r.3, r.4, r.5, r.6) refl
amo_from_row w And o d a b r = rw (r.1, r.2, r.3, r.4, r.5, r.6) refl
amo_from_row w Or o d a b r = rw (r.1, r.2, r.3, r.4, r.5, r.6) refl
amo_from_row w Min o d a b r = rw (r.1, r.2, r.3, r.4, r.5, r.6) refl
amo_from_row w Max o d a b r = rw (r.1, r.2, r.3, r.4, r.5, r.6) refl
amo_from_row w MinU o d a b r = rw (r.1, r.2, r.3, r.4, r.5, r.6) refl
amo_from_row w MaxU o d a b r = rw (r.1, r.2, r.3, r.4, r.5, r.6) refl

pub atomic_code_below : (op : AtomicOp) → atomic_code op < 32
atomic_code_below Lr = omega arith
atomic_code_below Sc = omega arith
atomic_code_below Swap = omega arith
atomic_code_below Add = omega arith
atomic_code_below Xor = omega arith
atomic_code_below And = omega arith
atomic_code_below Or = omega arith
atomic_code_below Min = omega arith
atomic_code_below Max = omega arith
atomic_code_below MinU = omega arith
atomic_code_below MaxU = omega arith

pub source_below : (op : AtomicOp) (b : ℕ) → SourceFits op b → b < 32
source_below Lr b s = omega arith
source_below Sc b s = s
source_below Swap b s = s
source_below Add b s = s
source_below Xor b s = s
source_below And b s = s
source_below Or b s = s
source_below Min b s = s
source_below Max b s = s
source_below MinU b s = s
source_below MaxU b s = s
