-- The system calls of the plain machine. Their numbers and error codes are those of Linux on RISC-V;
-- what they do is this project's own.
use Rattle.std.specs.Prelude.{ℕ, ◌+◌, ◌-◌, ◌%◌, ◌^◌, Option, Some, None, ◌==◌, ◌&&◌, ◌||◌, nat_le, min, not, if◌then◌else◌, List, [], ◌∷◌}
use Rattle.sq_system.specs.declared.call.CallArgs.{CallArgs}
use Rattle.sq_system.specs.declared.call.Effect.{Effect}
use Rattle.sq_system.specs.declared.call.Effect.TheVariants.{Exit, Write, Read, Brk, Fail, Ask}

-- ends with Exit(a0)
abbrev pub exit_effect : CallArgs → Effect
exit_effect call = Exit call.a0

-- a0 not 0: Fail 9. Buffer not wholly writable: Fail 14. Else the next min(a2, bytes left) input bytes
abbrev pub read_effect : CallArgs → Effect
read_effect call =
    if not (call.a0 == 0) then Fail 9
    else if not call.writable then Fail 14
    else Read (min call.a2 call.left)

-- a0 not 1 or 2: Fail 9. Buffer not wholly in memory: Fail 14. Else a write to a0
abbrev pub write_effect : CallArgs → Effect
write_effect call =
    if not (call.a0 == 1 || call.a0 == 2) then Fail 9
    else if not call.readable then Fail 14
    else Write call.a0

-- a0 from base to base + size, else base
abbrev pub brk_answer : CallArgs → ℕ
brk_answer call = if nat_le call.base call.a0 && nat_le call.a0 (call.base + call.size) then call.a0 else call.base

abbrev pub brk_effect : CallArgs → Effect
brk_effect call = Brk (brk_answer call)

-- a call by its number
pub record Row : Type 0 where
  pub number : ℕ
  pub effect : CallArgs → Effect

-- the calls that are known
abbrev pub calls : List Row
calls =
    record { number = 93; effect = exit_effect }
    ∷ record { number = 94; effect = exit_effect }
    ∷ record { number = 63; effect = read_effect }
    ∷ record { number = 64; effect = write_effect }
    ∷ record { number = 214; effect = brk_effect }
    ∷ []

-- the effect by the first row of the call's number; a call without a row is asked for
abbrev pub effect_in : List Row → CallArgs → Effect
effect_in [] call = Ask
effect_in (row ∷ rows) call = if call.number == row.number then row.effect call else effect_in rows call

abbrev pub effect_of : CallArgs → Effect
effect_of call = effect_in calls call

-- -n in 32 bits
abbrev pub negative : ℕ → ℕ
negative n = (2 ^ 32 - n) % 2 ^ 32

-- what a0 becomes: what was written, the count, the answer, -c for Fail c, -38 for a call that is not known
abbrev pub answer_of : CallArgs → Effect → Option ℕ
answer_of call (Exit status) = None
answer_of call (Write fd) = Some call.a2
answer_of call (Read count) = Some count
answer_of call (Brk answer) = Some answer
answer_of call (Fail code) = Some (negative code)
answer_of call Ask = Some (negative 38)
