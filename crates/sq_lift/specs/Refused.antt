-- What a file is refused for by its text and its note.
use Rattle.std.specs.Prelude.{◌≡◌, ℕ, Bool, ◌&&◌, List, Option, Some, None}
use Rattle.sq_num.specs.declared.refusal.Refusal.{Refusal}
use Rattle.sq_num.specs.declared.refusal.Refusal.TheVariants.{BadTarget, FallsOffText, UnrelocatedAuipc, ReadsText, ConflictingReloc, LoneHalf}
use Rattle.sq_isa.specs.declared.instructions.Insn.{Insn}
use Rattle.sq_reloc.specs.declared.mark.Mark.{Mark}
use Rattle.law_program.specs.Programs.{Text, Note, Program}
use Rattle.law_program.specs.Reached.{Decides}
use Rattle.law_program.specs.Notes.{is_plain}
use Rattle.law_program.specs.Faults.{refuse_if, is_astray, falls_off, is_auipc, is_access, is_lower_in_text, is_conflict, is_lone, text_refusal}
use Rattle.law_program.specs.NoteSections.{notes_of}
use Rattle.law_program.specs.FilePrograms.{text_of, IsProgramOf, IsReadAs, early_refusal}
use Rattle.sq_lift.specs.Flags.{Flags, is_flagged}

-- the fault of an instruction with this mark
abbrev pub insn_fault : Text → ℕ → Mark → Insn → Option Refusal
insn_fault t at mark insn =
    refuse_if (is_astray t at mark insn) (BadTarget at)
    (refuse_if (falls_off t at insn) (FallsOffText at)
    (refuse_if (is_auipc insn && is_plain mark) (UnrelocatedAuipc at)
    (refuse_if (is_access insn && is_lower_in_text t mark) (ReadsText at)
    (refuse_if (is_conflict mark) (ConflictingReloc at)
    (refuse_if (is_lone mark) (LoneHalf at)
    None)))))

-- the file is refused by its text
pub record IsTextRefusal (bytes : List ℕ) (refusal : Refusal) : Type 0 where
  pub is : ℕ → Bool
  pub program : Program
  pub read : IsReadAs bytes is program
  pub refuses : text_refusal is program ≡ Some refusal

-- the text of a file that its text doesn't refuse, with a flag for each reached word
pub record IsReadText (bytes : List ℕ) (t : Text) (f : Flags) : Type 0 where
  pub text : t ≡ text_of bytes
  pub reached : (p : Program) → IsProgramOf bytes p → Decides p (is_flagged f)
  pub fine : (p : Program) → IsProgramOf bytes p → text_refusal (is_flagged f) p ≡ None

-- the file is refused by its text, or by its note but for what is asked of the graph
pub record IsEarlyRefusal (bytes : List ℕ) (refusal : Refusal) : Type 0 where
  pub is : ℕ → Bool
  pub program : Program
  pub read : IsReadAs bytes is program
  pub refuses : early_refusal bytes is program ≡ Some refusal

-- the text of a file that is not so refused, with a flag for each reached word, and its notes
pub record IsReadNoted (bytes : List ℕ) (t : Text) (f : Flags) (list : List Note) : Type 0 where
  pub text : t ≡ text_of bytes
  pub notes : notes_of bytes (text_of bytes) ≡ Some list
  pub reached : (p : Program) → IsProgramOf bytes p → Decides p (is_flagged f)
  pub fine : (p : Program) → IsProgramOf bytes p → early_refusal bytes (is_flagged f) p ≡ None
