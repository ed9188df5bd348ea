-- What an effect rests on.
use Rattle.std.proofs.Common.{◌≡◌, Bool, true, false, ◌==◌, ◌||◌, not, if◌then◌else◌, refl, sym, ap, ◌∙◌, arith}
use Rattle.std.proofs.lemmas.Bool.{not-false}
use Rattle.sq_system.specs.declared.call.CallArgs.{CallArgs}
use Rattle.sq_system.specs.declared.call.Effect.{Effect}
use Rattle.sq_system.specs.declared.call.Effect.TheVariants.{Exit, Write, Read, Brk, Fail, Ask}
use Rattle.sq_system.specs.Calls.{effect_of, read_effect, write_effect}
use Rattle.sq_system.specs.World.{World}
use Rattle.sq_machine.specs.State.{State}
use Rattle.sq_machine.specs.Calls.{IsAllowed, call_of, narrowed, called, call_row}

either : (P : Effect → Type 0) (b : Bool) (x y : Effect) → (b ≡ true → P x) → (b ≡ false → P y) → P (if b then x else y)
either P true x y f g = f refl
either P false x y f g = g refl

write_allowed : (call : CallArgs) → IsAllowed call (write_effect call)
write_allowed call =
    either (IsAllowed call) (not (call.a0 == 1 || call.a0 == 2)) _ _ (λ e. tt)
    (λ e. either (IsAllowed call) (not call.readable) _ _ (λ f. tt) (λ f. not-false call.readable f))

read_allowed : (call : CallArgs) → IsAllowed call (read_effect call)
read_allowed call =
    either (IsAllowed call) (not (call.a0 == 0)) _ _ (λ e. tt)
    (λ e. either (IsAllowed call) (not call.writable) _ _ (λ f. tt) (λ f. (not-false call.writable f, omega arith, omega arith)))

pub effect_allowed : (call : CallArgs) → IsAllowed call (effect_of call)
effect_allowed call =
    either (IsAllowed call) (call.number == 93) _ _ (λ _. tt)
    (λ _. either (IsAllowed call) (call.number == 94) _ _ (λ _. tt)
    (λ _. either (IsAllowed call) (call.number == 63) _ _ (λ _. read_allowed call)
    (λ _. either (IsAllowed call) (call.number == 64) _ _ (λ _. write_allowed call)
    (λ _. either (IsAllowed call) (call.number == 214) _ _ (λ _. tt) (λ _. tt)))))

-- a call without what its effect doesn't depend on has the same effect
same_effect : (call : CallArgs) → effect_of (narrowed call) ≡ effect_of call
same_effect call = by_number (call.number == 63) (call.number == 64) refl refl
  where
    by_number : (reads writes : Bool) → (call.number == 63) ≡ reads → (call.number == 64) ≡ writes → effect_of (narrowed call) ≡ effect_of call
    by_number true writes e f = rw e refl
    by_number false true e f = rw (e, f) refl
    by_number false false e f = rw (e, f) refl

same_step : (call : CallArgs) (s : State) (effect : Effect) → called (narrowed call) s effect ≡ called call s effect
same_step call s (Exit status) = refl
same_step call s (Write fd) = refl
same_step call s (Read count) = refl
same_step call s (Brk answer) = refl
same_step call s (Fail code) = refl
same_step call s Ask = refl

-- and the same step
pub row_narrowed : (w : World) (s : State) → call_row w s ≡ called (narrowed (call_of w s)) s (effect_of (narrowed (call_of w s)))
row_narrowed w s =
    sym (ap (called (narrowed (call_of w s)) s) (same_effect (call_of w s)) ∙ same_step (call_of w s) s (effect_of (call_of w s)))
