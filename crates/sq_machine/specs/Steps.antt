-- One step of the plain machine, and its trace.
use Rattle.std.specs.Prelude.{◌≡◌, ℕ, List, [], ◌++◌, Option, Some, None, if◌then◌else◌}
use Rattle.sq_isa.specs.Table.{insn_of}
use Rattle.sq_isa.specs.declared.instructions.Insn.{Insn}
use Rattle.law_runs.specs.Runs.{Next, Went, Ended, Broke, Status, Running, Halted, Trace, trace, with_event}
use Rattle.sq_system.specs.declared.event.Event.{Event}
use Rattle.sq_system.specs.declared.event.Halt.{Halt}
use Rattle.sq_system.specs.declared.event.Halt.TheVariants.{Fetch, Illegal}
use Rattle.sq_system.specs.World.{World, is_executable, is_range}
use Rattle.sq_machine.specs.State.{State, aligned_number}
use Rattle.sq_machine.specs.Rows.{row_of}
use Rattle.sq_machine.specs.declared.moved.Moved.{Moved}
use Rattle.sq_machine.specs.declared.moved.Moved.TheVariants.{Went as HasGone, Ended as HasEnded}
use Rattle.sq_machine.specs.declared.moved.Outcome.{Outcome}
use Rattle.sq_machine.specs.declared.moved.Outcome.TheVariants.{Limit, Ended as EndedWith}

-- the word at pc, where pc is a multiple of 4 and the four bytes there are executable
abbrev pub fetched : World → State → Option ℕ
fetched w s = if is_range (is_executable w) s.pc 4 then aligned_number s.memory s.pc 4 else None

-- a word without a row is illegal
abbrev pub insn_step : World → State → Option Insn → Next Event Halt ⊥ State
insn_step w s None = Ended Illegal
insn_step w s (Some insn) = row_of w s insn

abbrev pub word_step : World → State → Option ℕ → Next Event Halt ⊥ State
word_step w s None = Ended (Fetch s.pc)
word_step w s (Some word) = insn_step w s (insn_of word)

-- One step: a next state and at most one event, or a halt. It never breaks.
unfoldable pub step_of : World → State → Next Event Halt ⊥ State
step_of w s = word_step w s (fetched w s)

-- The events of the first n steps, and Running or the halt.
abbrev pub trace_of : World → ℕ → State → Trace Event Halt
trace_of w n s = trace (step_of w) n s

-- the event of a step
abbrev pub event_in : Next Event Halt ⊥ State → Option Event
event_in (Went e s) = e
event_in (Ended h) = None
event_in (Broke b) = None

-- A step without an event: what is answered, and the state before and after.
abbrev pub IsQuietStep : Next Event Halt ⊥ State → Moved → State → State → Type 0
IsQuietStep next HasGone old new = next ≡ Went None new
IsQuietStep next (HasEnded h) old new = (next ≡ Ended h) × (new ≡ old)

-- A step: what is answered, the state before and after, and the log before and after.
abbrev pub IsStep : Next Event Halt ⊥ State → Moved → State → State → List Event → List Event → Type 0
IsStep next HasGone old new before after =
    (next ≡ Went (event_in next) new) × (after ≡ before ++ with_event (event_in next) [])
IsStep next (HasEnded h) old new before after = (next ≡ Ended h) × (new ≡ old) × (after ≡ before)

-- what an answer of `run` says of the trace
abbrev pub status_of : Outcome → Status Halt
status_of Limit = Running
status_of (EndedWith h) = Halted h
