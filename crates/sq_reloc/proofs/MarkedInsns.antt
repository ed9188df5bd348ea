-- What an instruction that is as its entry asks can hold.
use Rattle.std.proofs.Common.{◌≡◌, ◌⊎◌, inl, inr, ℕ, Bool, true, false, ◌&&◌, ◌||◌, nat_eq, Option, Some, refl, ℤ}
use Rattle.std.proofs.lemmas.Bool.{or_cases, and_parts}
use Rattle.sq_num.specs.Halves.{high_half, low_half}
use Rattle.sq_isa.specs.declared.instructions.Insn.{Insn}
use Rattle.sq_isa.specs.declared.instructions.Insn.TheVariants.{Lui, Auipc, Jalr, Load, Store, OpImm}
use Rattle.sq_isa.specs.declared.instructions.ImmOp.TheVariants.{Addi}
use Rattle.sq_reloc.specs.Required.{distance, is_lui, is_auipc, has_low_i, has_low_s, jumps_by, jumps_through_zero, is_pair, loads_upper, takes_low, is_call_of_none}

pub lui_loads : (half : ℕ) (insn : Option Insn) → is_lui half insn ≡ true → loads_upper insn ≡ true
lui_loads half (Some (Lui rd upper)) is = refl
lui_loads half other is = absurd (cc is)

pub auipc_loads : (half : ℕ) (insn : Option Insn) → is_auipc half insn ≡ true → loads_upper insn ≡ true
auipc_loads half (Some (Auipc rd upper)) is = refl
auipc_loads half other is = absurd (cc is)

pub low_i_takes : (half : ℤ) (insn : Option Insn) → has_low_i half insn ≡ true → takes_low insn ≡ true
low_i_takes half (Some (OpImm Addi rd rs imm)) is = refl
low_i_takes half (Some (Load kind rd rs offset)) is = refl
low_i_takes half (Some (Jalr rd rs offset)) is = refl
low_i_takes half other is = absurd (cc is)

pub low_s_takes : (half : ℤ) (insn : Option Insn) → has_low_s half insn ≡ true → takes_low insn ≡ true
low_s_takes half (Some (Store kind rs src offset)) is = refl
low_s_takes half other is = absurd (cc is)

jumps_takes : (register : ℕ) (half : ℤ) (insn : Option Insn) → jumps_by register half insn ≡ true → takes_low insn ≡ true
jumps_takes register half (Some (Jalr rd rs offset)) is = refl
jumps_takes register half other is = absurd (cc is)

pub pair_loads : (address target : ℕ) (first second : Option Insn) → is_pair address target first second ≡ true → loads_upper first ≡ true
pair_loads address target (Some (Auipc r upper)) second is = refl
pair_loads address target (Some (Lui r upper)) second is = refl
pair_loads address target other second is = absurd (cc is)

pub pair_takes : (address target : ℕ) (first second : Option Insn) → is_pair address target first second ≡ true → takes_low second ≡ true
pair_takes address target (Some (Auipc r upper)) second is =
    jumps_takes r (low_half (distance address target)) second ((and_parts (nat_eq upper (high_half (distance address target))) (jumps_by r (low_half (distance address target)) second) is).1)
pair_takes address target (Some (Lui r upper)) second is =
    jumps_takes r (low_half target) second ((and_parts (nat_eq upper (high_half target)) (jumps_by r (low_half target) second) is).1)
pair_takes address target other second is = absurd (cc is)

pub none_loads : (target : ℕ) (first second : Option Insn) → is_call_of_none target first second ≡ true → loads_upper first ≡ true
none_loads target first second is =
    (and_parts (nat_eq target 0) (loads_upper first) ((and_parts (nat_eq target 0 && loads_upper first) (jumps_through_zero second) is).0)).1
