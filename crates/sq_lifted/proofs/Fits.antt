-- The fields of what is read are in their ranges.
use Rattle.std.proofs.Common.{◌≡◌, ◌≢◌, inl, inr, ℕ, ℤ, pos, ◌-ℤ◌, ◌%◌, ◌^◌, ◌<◌, nat_lt, Bool, true, false, ◌==◌, Option, Some, None, if◌then◌else◌, refl, subst, arith}
use Rattle.std.proofs.lemmas.Bool.{eqb-false}
use Rattle.std.proofs.lemmas.Bool.Decides.{nat_tests}
use Rattle.sq_num.specs.Halves.{high_half, low_half}
use Rattle.sq_isa.specs.declared.instructions.Insn.{Insn}
use Rattle.sq_isa.specs.declared.instructions.Insn.TheVariants.{Lui, Auipc, Jal, Jalr, Branch as BranchInsn, Load, Store, OpImm, Op as OpInsn, Fence, Ecall, Ebreak, Unimp, Atomic}
use Rattle.sq_isa.specs.declared.instructions.ImmOp.TheVariants.{Addi}
use Rattle.sq_isa.specs.Ranges.{IsRegister, IsSigned, FieldsFit}
use Rattle.sq_reloc.specs.declared.mark.Mark.{Mark}
use Rattle.sq_reloc.specs.declared.mark.Mark.TheVariants.{Plain, Hi as HiMark, Lo as LoMark}
use Rattle.sq_graph.specs.declared.item.Item.TheVariants.{Op, Hi, Lo}
use Rattle.sq_graph.specs.declared.item.Term.{Term}
use Rattle.sq_graph.specs.declared.item.Term.TheVariants.{Fall, Jump, Branch, Call, PartJump, Indirect, Stop}
use Rattle.sq_graph.specs.Rules.{ItemFits, TermFits}
use Rattle.law_program.specs.Programs.{Text, is_in_text}
use Rattle.law_program.specs.Reached.{target_from}
use Rattle.law_program.specs.Readings.{Reading, IsItem, IsTerm, Links, plain_reading, upper_reading, lower_reading, marked_reading}

-- the target of a branch is that of its instruction
abbrev pub LeadsBy : ℕ → Term → Type 0
LeadsBy at Fall = Unit {0}
LeadsBy at (Jump to) = Unit {0}
LeadsBy at (Branch cond a b to) = (offset : ℤ) × IsSigned 13 offset × (to ≡ target_from at offset)
LeadsBy at (Call link to) = Unit {0}
LeadsBy at (PartJump link part to) = Unit {0}
LeadsBy at (Indirect link register offset) = Unit {0}
LeadsBy at (Stop word) = Unit {0}

abbrev pub ReadingFits : ℕ → Reading → Type 0
ReadingFits at (IsItem item) = ItemFits item
ReadingFits at (IsTerm term) = TermFits term × LeadsBy at term
ReadingFits at (Links link to) = IsRegister link × (link ≢ 0)

abbrev FitsWhen : ℕ → Option Reading → Type 0
FitsWhen at None = Unit {0}
FitsWhen at (Some r) = ReadingFits at r

pub high_small : (t : ℕ) → high_half t < 2 ^ 20
high_small t = omega arith

pub low_small : (t : ℕ) → IsSigned 12 (low_half t)
low_small t = go (nat_lt (t % 4096) 2048) refl
  where
    go : (b : Bool) → nat_lt (t % 4096) 2048 ≡ b → IsSigned 12 (if b then pos (t % 4096) else (pos (t % 4096) -ℤ pos 4096))
    go true e = (grind (arith, nat_tests), grind (arith, nat_tests))
    go false e = (grind (arith, nat_tests), grind (arith, nat_tests))

jal_fits : (b : Bool) (at link to : ℕ) → IsRegister link → (link == 0) ≡ b → ReadingFits at (if b then IsTerm (Jump to) else Links link to)
jal_fits true at link to f e = (tt, tt)
jal_fits false at link to f e = (f, eqb-false link 0 e)

plain_fits : (at : ℕ) (i : Insn) → FieldsFit i → FitsWhen at (plain_reading at i)
plain_fits at (Lui rd upper) f = (tt, f)
plain_fits at (Auipc rd upper) f = tt
plain_fits at (Jal rd offset) f = jal_fits (rd == 0) at rd (target_from at offset) f.0 refl
plain_fits at (Jalr rd rs offset) f = (f, tt)
plain_fits at (BranchInsn cond a b offset) f = ((f.0, f.1), (offset, f.2, refl))
plain_fits at (Load kind rd rs offset) f = (tt, f)
plain_fits at (Store kind rs src offset) f = (tt, f)
plain_fits at (OpImm op rd rs imm) f = (tt, f)
plain_fits at (OpInsn op rd a b) f = (tt, f)
plain_fits at (Fence word) f = (tt, f)
plain_fits at Ecall f = (tt, f)
plain_fits at Ebreak f = (inl refl, tt)
plain_fits at (Unimp word) f = (inr f, tt)
plain_fits at (Atomic op order rd rs src) f = (tt, f)

upper_fits : (b : Bool) (at to rd : ℕ) → rd < 32 → ReadingFits at (IsItem (if b then Hi rd to else Op (Lui rd (high_half to))))
upper_fits true at to rd f = f
upper_fits false at to rd f = (tt, (f, high_small to))

addi_fits : (b : Bool) (at to rd rs : ℕ) → rd < 32 → rs < 32 → ReadingFits at (IsItem (if b then Lo rd rs to else Op (OpImm Addi rd rs (low_half to))))
addi_fits true at to rd rs f g = (f, g)
addi_fits false at to rd rs f g = (tt, (f, g, low_small to))

jalr_fits : (b : Bool) (at to rd rs : ℕ) → rd < 32 → rs < 32 → ReadingFits at (IsTerm (if b then PartJump rd rs to else Indirect rd rs (low_half to)))
jalr_fits true at to rd rs f g = ((f, g), tt)
jalr_fits false at to rd rs f g = ((f, g, low_small to), tt)

outside_fits : (b : Bool) (at : ℕ) (i : Insn) → ItemFits (Op i) → FitsWhen at (if b then None else Some (IsItem (Op i)))
outside_fits true at i f = tt
outside_fits false at i f = f

upper_marked : (t : Text) (at to : ℕ) (i : Insn) → FieldsFit i → FitsWhen at (upper_reading t to i)
upper_marked t at to (Lui rd upper) f = upper_fits (is_in_text t to) at to rd f.0
upper_marked t at to (Auipc rd upper) f = upper_fits (is_in_text t to) at to rd f.0
upper_marked t at to i f = tt

lower_marked : (t : Text) (at to : ℕ) (i : Insn) → FieldsFit i → FitsWhen at (lower_reading t to i)
lower_marked t at to (OpImm Addi rd rs imm) f = addi_fits (is_in_text t to) at to rd rs f.0 f.1
lower_marked t at to (Load kind rd rs imm) f = outside_fits (is_in_text t to) at (Load kind rd rs (low_half to)) (tt, (f.0, f.1, low_small to))
lower_marked t at to (Store kind rs src imm) f = outside_fits (is_in_text t to) at (Store kind rs src (low_half to)) (tt, (f.0, f.1, low_small to))
lower_marked t at to (Jalr rd rs imm) f = jalr_fits (is_in_text t to) at to rd rs f.0 f.1
lower_marked t at to i f = tt

marked_fits : (t : Text) (at : ℕ) (mark : Mark) (i : Insn) → FieldsFit i → FitsWhen at (marked_reading t at mark i)
marked_fits t at Plain i f = plain_fits at i f
marked_fits t at (HiMark to) i f = upper_marked t at to i f
marked_fits t at (LoMark to) i f = lower_marked t at to i f
marked_fits t at mark i f = tt

pub reading_fits : (t : Text) (at : ℕ) (mark : Mark) (i : Insn) (r : Reading) → FieldsFit i → marked_reading t at mark i ≡ Some r → ReadingFits at r
reading_fits t at mark i r f e = subst (FitsWhen at) e (marked_fits t at mark i f)
