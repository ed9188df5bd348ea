-- ECALL: what a system call finds and what it does.
use Rattle.std.specs.Prelude.{◌≡◌, ℕ, ◌-◌, ◌^◌, ◌≤◌, ◌==◌, ◌&&◌, true, min, length, take, Option, Some, None}
use Rattle.law_runs.specs.Runs.{Next, Went, Ended}
use Rattle.sq_system.specs.Calls.{effect_of, answer_of}
use Rattle.sq_system.specs.declared.call.CallArgs.{CallArgs}
use Rattle.sq_system.specs.declared.call.Effect.{Effect}
use Rattle.sq_system.specs.declared.call.Effect.TheVariants.{Exit, Write, Read, Brk, Fail, Ask}
use Rattle.sq_system.specs.declared.event.Event.{Event}
use Rattle.sq_system.specs.declared.event.Event.TheVariants.{Wrote, Read as WasRead, Brk as WasBrk, Failed, Asked}
use Rattle.sq_system.specs.declared.event.Halt.{Halt}
use Rattle.sq_system.specs.declared.event.Halt.TheVariants.{Exit as Exited}
use Rattle.sq_system.specs.World.{World, is_writable, is_range}
use Rattle.sq_memory.specs.Cells.{is_in_memory}
use Rattle.sq_machine.specs.State.{State, bytes_at, with_register, with_bytes, without_input, advance}

-- the registers of Linux's calling convention: the number in a7, the arguments in a0, a1 and a2
abbrev pub a0 : State → ℕ
a0 s = s.registers 10

abbrev pub a1 : State → ℕ
a1 s = s.registers 11

abbrev pub a2 : State → ℕ
a2 s = s.registers 12

abbrev pub a7 : State → ℕ
a7 s = s.registers 17

-- how much of the input is left; no call asks for 2^32 bytes
abbrev pub left : State → ℕ
left s = min (length s.input) (2 ^ 32 - 1)

-- what the call finds: its buffer is the a2 bytes at a1
unfoldable pub call_of : World → State → CallArgs
call_of w s = record {
  number = a7 s;
  a0 = a0 s;
  a1 = a1 s;
  a2 = a2 s;
  base = w.base;
  size = w.size;
  left = left s;
  readable = is_range (is_in_memory s.memory) (a1 s) (a2 s);
  writable = is_range (is_writable w) (a1 s) (a2 s);
}

-- Only `write` depends on whether its buffer is in memory, and only `read` on whether it is writable; the same
-- call without what its effect doesn't depend on.
abbrev pub narrowed : CallArgs → CallArgs
narrowed call = record call {
  readable = call.number == 64 && call.readable;
  writable = call.number == 63 && call.writable;
}

-- a0 with the answer, and the instruction behind the call follows
abbrev pub answered : Option ℕ → State → State
answered None s = advance s
answered (Some answer) s = advance (with_register 10 answer s)

-- the step of a call of this effect
abbrev pub called : CallArgs → State → Effect → Next Event Halt ⊥ State
called call s (Exit status) = Ended (Exited status)
called call s (Write fd) = Went (Some (Wrote fd (bytes_at s.memory call.a1 call.a2))) (answered (answer_of call (Write fd)) s)
called call s (Read count) =
    Went (Some (WasRead (take count s.input))) (answered (answer_of call (Read count)) (without_input count (with_bytes call.a1 (take count s.input) s)))
called call s (Brk answer) = Went (Some (WasBrk answer)) (answered (answer_of call (Brk answer)) s)
called call s (Fail code) = Went (Some (Failed call.number code)) (answered (answer_of call (Fail code)) s)
called call s Ask = Went (Some (Asked call.number)) (answered (answer_of call Ask) s)

abbrev pub call_row : World → State → Next Event Halt ⊥ State
call_row w s = called (call_of w s) s (effect_of (call_of w s))

-- what a call of this effect may rest on: its buffer and the input are there
abbrev pub IsAllowed : CallArgs → Effect → Type 0
IsAllowed call (Exit status) = Unit {0}
IsAllowed call (Write fd) = call.readable ≡ true
IsAllowed call (Read count) = (call.writable ≡ true) × (count ≤ call.a2) × (count ≤ call.left)
IsAllowed call (Brk answer) = Unit {0}
IsAllowed call (Fail code) = Unit {0}
IsAllowed call Ask = Unit {0}
