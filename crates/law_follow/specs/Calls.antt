-- ECALL on tagged values: the number in a7, the arguments in a0, a1 and a2.
use Rattle.std.specs.Prelude.{ℕ, ◌-◌, ◌^◌, Bool, false, ◌==◌, ◌&&◌, ◌||◌, List, [], Some, length, take, drop, map, min, unwrap_or, if◌then◌else◌}
use Rattle.std.specs.List.{list_any}
use Rattle.law_runs.specs.Runs.{Went, Ended, Broke}
use Rattle.sq_memory.specs.Cells.{is_in_memory, cells_from, with_cells}
use Rattle.sq_system.specs.World.{is_writable, is_range}
use Rattle.sq_system.specs.Calls.{effect_of, answer_of}
use Rattle.sq_system.specs.declared.call.CallArgs.{CallArgs}
use Rattle.sq_system.specs.declared.call.Effect.{Effect}
use Rattle.sq_system.specs.declared.call.Effect.TheVariants.{Exit, Write, Read, Brk, Fail, Ask}
use Rattle.sq_system.specs.declared.event.Event.{Event}
use Rattle.sq_system.specs.declared.event.Event.TheVariants.{Wrote, Read as WasRead, Brk as WasBrk, Failed, Asked}
use Rattle.sq_system.specs.declared.event.Halt.TheVariants.{Exit as Exited}
use Rattle.law_follow.specs.declared.kind.Kind.TheVariants.{Call, Fragment, Stale as StaleByte, Text}
use Rattle.law_follow.specs.Values.{Value, Num, Tagged, Cell, Byte, is_tagged, is_stale, is_fragment, byte_of}
use Rattle.law_follow.specs.Settings.{Setting, Store, meets_text}
use Rattle.law_follow.specs.Accesses.{Step}

-- the values of the four registers
pub record CallOperands : Type 0 where
  pub a0 : Value
  pub a1 : Value
  pub a2 : Value
  pub a7 : Value

-- an argument that the call looks at is tagged
abbrev pub has_tagged : ℕ → CallOperands → Bool
has_tagged number r =
    if number == 93 || number == 94 || number == 214 then is_tagged r.a0
    else if number == 63 || number == 64 then is_tagged r.a0 || is_tagged r.a1 || is_tagged r.a2
    else false

abbrev pub number_in : Value → ℕ
number_in (Num x) = x
number_in (Tagged tag) = 0

-- what the call finds: its buffer is the a2 bytes at a1, and no call asks for 2^32 bytes of input
abbrev pub call_of : Setting → ℕ → CallOperands → Store → CallArgs
call_of s number r store = record {
  number = number;
  a0 = number_in r.a0;
  a1 = number_in r.a1;
  a2 = number_in r.a2;
  base = s.world.base;
  size = s.world.size;
  left = min (length store.input) (2 ^ 32 - 1);
  readable = is_range (is_in_memory store.memory) (number_in r.a1) (number_in r.a2);
  writable = is_range (is_writable s.world) (number_in r.a1) (number_in r.a2);
}

-- a read from 0, or a write to 1 or 2: only these look at their buffer
abbrev pub takes_buffer : CallArgs → Bool
takes_buffer call = (call.number == 63 && call.a0 == 0) || (call.number == 64 && (call.a0 == 1 || call.a0 == 2))

-- what a0 becomes
abbrev pub answer : CallArgs → Effect → Value
answer call effect = Num (unwrap_or (answer_of call effect) 0)

-- goes on with the bytes of a buffer; first a stale byte breaks, and then a part of a tagged value
abbrev pub with_buffer : List Cell → (List ℕ → Step) → Step
with_buffer cells go =
    if list_any is_stale cells then Broke StaleByte
    else if list_any is_fragment cells then Broke Fragment
    else go (map byte_of cells)

-- the store where `count` bytes of the input went to x
abbrev pub with_input : ℕ → ℕ → Store → Store
with_input x count store = record store {
  memory = with_cells store.memory x (map Byte (take count store.input));
  input = drop count store.input;
}

-- a call of this effect: what a0 becomes, and the event
abbrev pub answered_with : CallArgs → Effect → Event → Store → Step
answered_with call effect event store = Went (Some event) (record { value = answer call effect; store = store })

abbrev pub effect_row : CallArgs → Store → Effect → Step
effect_row call store (Exit status) = Ended (Exited status)
effect_row call store (Write fd) =
    with_buffer (unwrap_or (cells_from store.memory call.a1 call.a2) []) (λ bytes. answered_with call (Write fd) (Wrote fd bytes) store)
effect_row call store (Read count) =
    answered_with call (Read count) (WasRead (take count store.input)) (with_input call.a1 count store)
effect_row call store (Brk brk) = answered_with call (Brk brk) (WasBrk brk) store
effect_row call store (Fail code) = answered_with call (Fail code) (Failed call.number code) store
effect_row call store Ask = answered_with call Ask (Asked call.number) store

-- a buffer that meets text breaks, once a0 was looked at; the rest is the table of system calls
abbrev pub args_row : Setting → CallArgs → Store → Step
args_row s call store =
    if takes_buffer call && meets_text s call.a1 call.a2 then Broke Text else effect_row call store (effect_of call)

abbrev pub number_row : Setting → CallOperands → Store → Value → Step
number_row s r store (Tagged tag) = Broke Call
number_row s r store (Num number) =
    if has_tagged number r then Broke Call else args_row s (call_of s number r store) store

abbrev pub call_row : Setting → CallOperands → Store → Step
call_row s r store = number_row s r store r.a7
