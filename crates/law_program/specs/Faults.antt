-- What refuses a program: a fault of a reached word of text, the one of least address, and of its faults the one of
-- least number.
use Rattle.std.specs.Prelude.{ℕ, ◌+◌, ◌%◌, Bool, true, false, not, ◌==◌, ◌&&◌, ◌||◌, List, [], ◌∷◌, Option, Some, None, if◌then◌else◌}
use Rattle.std.specs.Option.{option_or, is_some}
use Rattle.std.specs.List.{list_any}
use Rattle.sq_num.specs.declared.refusal.Refusal.{Refusal}
use Rattle.sq_num.specs.declared.refusal.Refusal.TheVariants.{UnsupportedReloc, RelocDisagrees, UnsupportedInstruction, BadTarget, FallsOffText, UnrelocatedAuipc, ReadsText, ConflictingReloc, LoneHalf}
use Rattle.sq_isa.specs.declared.instructions.Insn.{Insn}
use Rattle.sq_isa.specs.declared.instructions.Insn.TheVariants.{Auipc, Load, Store}
use Rattle.sq_reloc.specs.declared.mark.Mark.{Mark}
use Rattle.sq_reloc.specs.declared.mark.Mark.TheVariants.{Lo, Unsupported, Disagrees, Conflict, Lone}
use Rattle.law_program.specs.Programs.{Word, Text, Program, is_word, is_in_text, insn_in, end_of}
use Rattle.law_program.specs.Reached.{jump_target, half_target, insn_goes_on}
use Rattle.law_program.specs.Notes.{is_plain}

-- the refusal where the test holds, or else the later one
abbrev pub refuse_if : Bool → Refusal → Option Refusal → Option Refusal
refuse_if test refusal later = if test then Some refusal else later

-- 17 and 18: the mark has a relocation type
abbrev pub mark_refusal : ℕ → Mark → Option Refusal
mark_refusal at (Unsupported kind) = Some (UnsupportedReloc at kind)
mark_refusal at (Disagrees kind) = Some (RelocDisagrees at kind)
mark_refusal at mark = None

abbrev pub insn_is : (Insn → Bool) → Option Insn → Bool
insn_is test None = false
insn_is test (Some insn) = test insn

-- 21: a branch or a `jal` to no word of text, or a half of an address in text that is no multiple of 4
abbrev pub is_astray : Text → ℕ → Mark → Insn → Bool
is_astray t at mark insn =
    list_any (λ x. not (is_word t x)) (jump_target at insn)
    || list_any (λ x. is_in_text t x && not (x % 4 == 0)) (half_target mark)

-- 22: the instruction goes on, or calls, and text ends behind it
abbrev pub falls_off : Text → ℕ → Insn → Bool
falls_off t at insn = insn_goes_on insn && at + 4 == end_of t

abbrev pub is_auipc : Insn → Bool
is_auipc (Auipc rd upper) = true
is_auipc insn = false

-- a load or a store
abbrev pub is_access : Insn → Bool
is_access (Load kind rd rs offset) = true
is_access (Store kind rs src offset) = true
is_access insn = false

-- the lower half of an address in text
abbrev pub is_lower_in_text : Text → Mark → Bool
is_lower_in_text t (Lo to) = is_in_text t to
is_lower_in_text t mark = false

-- 25 and 27
abbrev pub is_conflict : Mark → Bool
is_conflict Conflict = true
is_conflict mark = false

abbrev pub is_lone : Mark → Bool
is_lone Lone = true
is_lone mark = false

-- THE fault of a word at an address, by ascending numbers. 23: an `auipc` with no half of an address. 24: a load or a store
-- at an address in text
abbrev pub fault_of : Text → ℕ → Word → Option Refusal
fault_of t at w =
    option_or (mark_refusal at w.mark)
    (refuse_if (not (is_some (insn_in w))) (UnsupportedInstruction at w.number)
    (refuse_if (insn_is (is_astray t at w.mark) (insn_in w)) (BadTarget at)
    (refuse_if (insn_is (falls_off t at) (insn_in w)) (FallsOffText at)
    (refuse_if (insn_is is_auipc (insn_in w) && is_plain w.mark) (UnrelocatedAuipc at)
    (refuse_if (insn_is is_access (insn_in w) && is_lower_in_text t w.mark) (ReadsText at)
    (refuse_if (is_conflict w.mark) (ConflictingReloc at)
    (refuse_if (is_lone w.mark) (LoneHalf at)
    None)))))))

-- the fault of the first reached word of these that has one, where they stand from `at` on
abbrev pub fault_from : (ℕ → Bool) → Text → ℕ → List Word → Option Refusal
fault_from is t at [] = None
fault_from is t at (w ∷ words) =
    option_or (if is at then fault_of t at w else None) (fault_from is t (at + 4) words)

-- THE refusal of text
abbrev pub text_refusal : (ℕ → Bool) → Program → Option Refusal
text_refusal is p = fault_from is p.text p.text.lo p.text.words
