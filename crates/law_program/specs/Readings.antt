-- How words of text are read.
use Rattle.std.specs.Prelude.{ℕ, ◌==◌, Option, Some, None, if◌then◌else◌}
use Rattle.std.specs.Option.{option_and_then}
use Rattle.sq_num.specs.Halves.{high_half, low_half}
use Rattle.sq_isa.specs.declared.instructions.Insn.{Insn}
use Rattle.sq_isa.specs.declared.instructions.Insn.TheVariants.{Lui, Auipc, Jal, Jalr, Branch as BranchInsn, Load, Store, OpImm, Op as OpInsn, Fence, Ecall, Ebreak, Unimp, Atomic}
use Rattle.sq_isa.specs.declared.instructions.ImmOp.TheVariants.{Addi}
use Rattle.sq_reloc.specs.declared.mark.Mark.{Mark}
use Rattle.sq_reloc.specs.declared.mark.Mark.TheVariants.{Plain, Hi as HiMark, Lo as LoMark}
use Rattle.sq_graph.specs.declared.item.Item.{Item}
use Rattle.sq_graph.specs.declared.item.Item.TheVariants.{Op, Hi, Lo}
use Rattle.sq_graph.specs.declared.item.Term.{Term}
use Rattle.sq_graph.specs.declared.item.Term.TheVariants.{Jump, Branch, PartJump, Indirect, Stop}
use Rattle.law_program.specs.Programs.{Word, Text, word_at, is_in_text, insn_in}
use Rattle.law_program.specs.Reached.{target_from}

-- an item, a term, or a `jal` with this link to this address, which is an Out or a Call. Names are addresses
pub data Reading : Type 0 where
  IsItem : Item → Reading
  IsTerm : Term → Reading
  Links : ℕ → ℕ → Reading

-- `jal`
abbrev pub jal_reading : ℕ → ℕ → Reading
jal_reading link to = if link == 0 then IsTerm (Jump to) else Links link to

-- EBREAK as a word
abbrev pub ebreak_word : ℕ
ebreak_word = 0x00100073

-- an instruction without a half of an address. An `auipc` has none: its value would change where code moves
abbrev pub plain_reading : ℕ → Insn → Option Reading
plain_reading at (Lui rd upper) = Some (IsItem (Op (Lui rd upper)))
plain_reading at (Auipc rd upper) = None
plain_reading at (Jal rd offset) = Some (jal_reading rd (target_from at offset))
plain_reading at (Jalr rd rs offset) = Some (IsTerm (Indirect rd rs offset))
plain_reading at (BranchInsn cond a b offset) = Some (IsTerm (Branch cond a b (target_from at offset)))
plain_reading at (Load kind rd rs offset) = Some (IsItem (Op (Load kind rd rs offset)))
plain_reading at (Store kind rs src offset) = Some (IsItem (Op (Store kind rs src offset)))
plain_reading at (OpImm op rd rs imm) = Some (IsItem (Op (OpImm op rd rs imm)))
plain_reading at (OpInsn op rd a b) = Some (IsItem (Op (OpInsn op rd a b)))
plain_reading at (Fence word) = Some (IsItem (Op (Fence word)))
plain_reading at Ecall = Some (IsItem (Op Ecall))
plain_reading at Ebreak = Some (IsTerm (Stop ebreak_word))
plain_reading at (Unimp word) = Some (IsTerm (Stop word))
plain_reading at (Atomic op order rd rs src) = Some (IsItem (Op (Atomic op order rd rs src)))

-- the upper half of an address: a Hi where it is in text, else a `lui` with this half
abbrev pub upper_item : Text → ℕ → ℕ → Item
upper_item t to rd = if is_in_text t to then Hi rd to else Op (Lui rd (high_half to))

abbrev pub upper_reading : Text → ℕ → Insn → Option Reading
upper_reading t to (Lui rd upper) = Some (IsItem (upper_item t to rd))
upper_reading t to (Auipc rd upper) = Some (IsItem (upper_item t to rd))
upper_reading t to insn = None

-- the lower half of an address: where it is in text a Lo, and a PartJump; else the instruction with this half. A load
-- from text or a store to it has no reading
abbrev pub lower_reading : Text → ℕ → Insn → Option Reading
lower_reading t to (OpImm Addi rd rs imm) =
    Some (IsItem (if is_in_text t to then Lo rd rs to else Op (OpImm Addi rd rs (low_half to))))
lower_reading t to (Load kind rd rs offset) =
    if is_in_text t to then None else Some (IsItem (Op (Load kind rd rs (low_half to))))
lower_reading t to (Store kind rs src offset) =
    if is_in_text t to then None else Some (IsItem (Op (Store kind rs src (low_half to))))
lower_reading t to (Jalr rd rs offset) =
    Some (IsTerm (if is_in_text t to then PartJump rd rs to else Indirect rd rs (low_half to)))
lower_reading t to insn = None

-- a word with a mark of a fault has no reading
abbrev pub marked_reading : Text → ℕ → Mark → Insn → Option Reading
marked_reading t at Plain insn = plain_reading at insn
marked_reading t at (HiMark to) insn = upper_reading t to insn
marked_reading t at (LoMark to) insn = lower_reading t to insn
marked_reading t at mark insn = None

-- THE reading of a word at an address; none is a refusal where the word is reached
abbrev pub reading_of : Text → ℕ → Word → Option Reading
reading_of t at w = option_and_then (marked_reading t at w.mark) (insn_in w)

abbrev pub reading_at : Text → ℕ → Option Reading
reading_at t at = option_and_then (reading_of t at) (word_at t at)
