-- The monitored run of a program: the table of tagged values over the words of its text, where names are addresses.
use Rattle.std.specs.Prelude.{ℕ, ℤ, ◌+◌, Bool, true, false, Option, Some, None}
use Rattle.sq_isa.specs.Words.{wrapped, upper_word}
use Rattle.sq_isa.specs.Uses.{destination_of}
use Rattle.sq_isa.specs.Registers.{written}
use Rattle.sq_isa.specs.declared.instructions.Insn.{Insn}
use Rattle.sq_isa.specs.declared.instructions.Insn.TheVariants.{Lui, Auipc, Jal, Jalr, Branch, Ebreak, Unimp}
use Rattle.law_runs.specs.Runs.{Next, Went, Ended, Broke}
use Rattle.sq_system.specs.World.{World}
use Rattle.sq_system.specs.declared.event.Event.{Event}
use Rattle.sq_system.specs.declared.event.Halt.{Halt}
use Rattle.sq_system.specs.declared.event.Halt.TheVariants.{Fetch, Illegal}
use Rattle.sq_reloc.specs.declared.mark.Mark.{Mark}
use Rattle.sq_reloc.specs.declared.mark.Mark.TheVariants.{Hi, Lo}
use Rattle.sq_graph.specs.Lines.{AddressHalf, Plain, Upper, Lower}
use Rattle.law_follow.specs.declared.kind.Kind.{Kind}
use Rattle.law_follow.specs.declared.kind.Kind.TheVariants.{Arithmetic}
use Rattle.law_follow.specs.Values.{Code, Value, Tagged, Holds}
use Rattle.law_follow.specs.Settings.{Setting}
use Rattle.law_follow.specs.Arithmetic.{is_taken}
use Rattle.law_follow.specs.Accesses.{Step}
use Rattle.law_follow.specs.Rows.{row_of}
use Rattle.law_follow.specs.Jumps.{Destination, ToName, ToNumber, Jumped, indirect_jump, part_jump, stop}
use Rattle.law_follow.specs.GraphRuns.{Core, register_value, operands}
use Rattle.law_program.specs.Programs.{Word, Text, word_at, insn_in, is_in_text, end_of}
use Rattle.law_program.specs.Reached.{target_from}

-- the address of the instruction that comes, and the registers and the store
pub record Watched : Type 0 where
  pub pc : ℕ
  pub core : Core

abbrev pub Watches : Type 0
Watches = Next Event Halt Kind Watched

-- the names that are code are the addresses in text
abbrev pub setting_of : World → Text → Setting
setting_of w t = record { world = w; lo = t.lo; hi = end_of t; is_code = is_in_text t }

-- the word that a `lui` or an `auipc` makes
abbrev pub upper_value : ℕ → Insn → Option ℕ
upper_value at (Lui rd upper) = Some (upper_word upper)
upper_value at (Auipc rd upper) = Some (wrapped (at + upper_word upper))
upper_value at insn = None

-- the half of an address that the mark says. A word with a mark of a fault is refused where it is reached, so that no
-- run that has not broken comes to it
abbrev pub half_of : ℕ → Mark → Insn → AddressHalf
half_of at (Hi to) insn = Upper to (upper_value at insn)
half_of at (Lo to) insn = Lower to
half_of at mark insn = Plain

-- every link that is written is the address of the next instruction
abbrev pub with_link : ℕ → ℕ → Core → Core
with_link link at core = record core { registers = written link (Holds (Tagged (Code (at + 4)))) core.registers }

abbrev pub at_address : ℕ → Core → Watches
at_address x core = Went None (record { pc = x; core = core })

abbrev pub address_in : Destination → ℕ
address_in (ToName n) = n
address_in (ToNumber x) = x

-- the jump is read before the link is written
abbrev pub jumped : ℕ → ℕ → Core → Jumped → Watches
jumped link at core (Went event destination) = at_address (address_in destination) (with_link link at core)
jumped link at core (Ended halt) = Ended halt
jumped link at core (Broke kind) = Broke kind

abbrev pub branched : ℕ → ℕ → Core → Option Bool → Watches
branched at to core None = Broke Arithmetic
branched at to core (Some true) = at_address to core
branched at to core (Some false) = at_address (at + 4) core

-- to the next word with what an instruction made
abbrev pub finished : ℕ → ℕ → Core → Step → Watches
finished at destination core (Went event made) =
    Went event (record {
      pc = at + 4;
      core = record { registers = written destination (Holds made.value) core.registers; store = made.store };
    })
finished at destination core (Ended halt) = Ended halt
finished at destination core (Broke kind) = Broke kind

-- `jalr`: with the lower half of an address, or to what its register holds plus its offset
abbrev pub jalr_jump : Setting → AddressHalf → ℤ → Value → Jumped
jalr_jump s (Lower to) offset value = part_jump s to offset value
jalr_jump s (Upper to word) offset value = indirect_jump s offset value
jalr_jump s Plain offset value = indirect_jump s offset value

-- what an instruction does
abbrev pub insn_step : Setting → ℕ → AddressHalf → Insn → Core → Watches
insn_step s at half (Jal rd offset) core = at_address (target_from at offset) (with_link rd at core)
insn_step s at half (Jalr rd rs offset) core =
    jumped rd at core (jalr_jump s half offset (register_value rs core.registers))
insn_step s at half (Branch cond a b offset) core =
    branched at (target_from at offset) core (is_taken s cond (register_value a core.registers) (register_value b core.registers))
insn_step s at half Ebreak core = Ended (stop 0x00100073)
insn_step s at half (Unimp word) core = Ended (stop word)
insn_step s at half insn core =
    finished at (destination_of insn) core (row_of s half insn (operands insn core.registers) core.store)

abbrev pub marked_step : Setting → ℕ → Mark → Option Insn → Core → Watches
marked_step s at mark None core = Ended Illegal
marked_step s at mark (Some insn) core = insn_step s at (half_of at mark insn) insn core

abbrev pub word_step : Setting → ℕ → Option Word → Core → Watches
word_step s at None core = Ended (Fetch at)
word_step s at (Some w) core = marked_step s at w.mark (insn_in w) core

-- THE monitored step. A run that has not broken comes to no executable byte outside text
abbrev pub monitored_step : World → Text → Watched → Watches
monitored_step w t watched = word_step (setting_of w t) watched.pc (word_at t watched.pc) watched.core
