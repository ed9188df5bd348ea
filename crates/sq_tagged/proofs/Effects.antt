-- Calls without what their effects don't depend on.
use Rattle.std.proofs.Common.{◌≡◌, Bool, true, false, ◌==◌, ◌&&◌, if◌then◌else◌, refl, ap, ◌∙◌}
use Rattle.law_runs.specs.Runs.{Broke}
use Rattle.sq_system.specs.declared.call.CallArgs.{CallArgs}
use Rattle.sq_system.specs.declared.call.Effect.{Effect}
use Rattle.sq_system.specs.declared.call.Effect.TheVariants.{Exit, Write, Read, Brk, Fail, Ask}
use Rattle.sq_system.specs.Calls.{effect_of}
use Rattle.law_follow.specs.declared.kind.Kind.TheVariants.{Text}
use Rattle.law_follow.specs.Settings.{Setting, Store, meets_text}
use Rattle.law_follow.specs.Accesses.{Step}
use Rattle.law_follow.specs.Calls.{takes_buffer, effect_row, args_row}
use Rattle.sq_machine.specs.Calls.{narrowed}

-- a call without what its effect doesn't depend on has the same effect
same_effect : (call : CallArgs) → effect_of (narrowed call) ≡ effect_of call
same_effect call = by_number (call.number == 63) (call.number == 64) refl refl
  where
    by_number : (reads writes : Bool) → (call.number == 63) ≡ reads → (call.number == 64) ≡ writes → effect_of (narrowed call) ≡ effect_of call
    by_number true writes e f = rw e refl
    by_number false true e f = rw (e, f) refl
    by_number false false e f = rw (e, f) refl

same_row : (call : CallArgs) (store : Store) (effect : Effect) → effect_row (narrowed call) store effect ≡ effect_row call store effect
same_row call store (Exit status) = refl
same_row call store (Write fd) = refl
same_row call store (Read count) = refl
same_row call store (Brk answer) = refl
same_row call store (Fail code) = refl
same_row call store Ask = refl

-- and the same row
pub args_narrowed : (s : Setting) (call : CallArgs) (store : Store) → args_row s (narrowed call) store ≡ args_row s call store
args_narrowed s call store =
    let row : effect_row (narrowed call) store (effect_of (narrowed call)) ≡ effect_row call store (effect_of call) =
    ap (effect_row (narrowed call) store) (same_effect call) ∙ same_row call store (effect_of call) in
    ap (λ (go : Step). if takes_buffer call && meets_text s call.a1 call.a2 then Broke Text else go) row
