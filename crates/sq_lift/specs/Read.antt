-- How words of text are read, as the code has it.
use Rattle.std.specs.Prelude.{ℕ, Option, Some, None}
use Rattle.sq_num.specs.Halves.{low_half}
use Rattle.sq_isa.specs.declared.instructions.Insn.{Insn}
use Rattle.sq_isa.specs.declared.instructions.Insn.TheVariants.{Jalr, Load, Store, OpImm}
use Rattle.sq_isa.specs.declared.instructions.ImmOp.TheVariants.{Addi}
use Rattle.sq_graph.specs.declared.item.Item.TheVariants.{Op, Lo}
use Rattle.sq_graph.specs.declared.item.Term.TheVariants.{PartJump, Indirect}
use Rattle.sq_lift.specs.declared.readings.Reading.{Reading as Held}
use Rattle.sq_lift.specs.declared.readings.Reading.TheVariants.{Item as HeldItem, Term as HeldTerm, Links as HeldLinks}
use Rattle.law_program.specs.Readings.{Reading, IsItem, IsTerm, Links}

-- what a reading is seen as
abbrev pub seen : Held → Reading
seen (HeldItem item) = IsItem item
seen (HeldTerm term) = IsTerm term
seen (HeldLinks link to) = Links link to

-- of an instruction with the lower half of an address in text
abbrev pub lower_reading_inside : ℕ → Insn → Option Reading
lower_reading_inside to (OpImm Addi rd rs imm) = Some (IsItem (Lo rd rs to))
lower_reading_inside to (Jalr rd rs offset) = Some (IsTerm (PartJump rd rs to))
lower_reading_inside to insn = None

-- of an instruction with the lower half of another address
abbrev pub lower_reading_outside : ℕ → Insn → Option Reading
lower_reading_outside to (OpImm Addi rd rs imm) = Some (IsItem (Op (OpImm Addi rd rs (low_half to))))
lower_reading_outside to (Load kind rd rs offset) = Some (IsItem (Op (Load kind rd rs (low_half to))))
lower_reading_outside to (Store kind rs src offset) = Some (IsItem (Op (Store kind rs src (low_half to))))
lower_reading_outside to (Jalr rd rs offset) = Some (IsTerm (Indirect rd rs (low_half to)))
lower_reading_outside to insn = None
