-- Steps without an event, as steps with a log.
use Rattle.std.proofs.Common.{◌≡◌, List, [], ◌++◌, None, refl, sym, ap, ◌∙◌, subst}
use Rattle.std.proofs.lemmas.List.{append-nil}
use Rattle.law_runs.specs.Runs.{Next, Went, Ended, with_event}
use Rattle.sq_system.specs.declared.event.Event.{Event}
use Rattle.sq_system.specs.declared.event.Halt.{Halt}
use Rattle.sq_machine.specs.State.{State}
use Rattle.sq_machine.specs.Steps.{IsQuietStep, IsStep, event_in}
use Rattle.sq_machine.specs.declared.moved.Moved.{Moved}
use Rattle.sq_machine.specs.declared.moved.Moved.TheVariants.{Went as HasGone, Ended as HasEnded}

pub quiet : (next : Next Event Halt ⊥ State) (moved : Moved) (old new : State) (log : List Event) → IsQuietStep next moved old new → IsStep next moved old new log log
quiet next HasGone old new log e =
    let f : event_in next ≡ event_in (Went None new) = ap event_in e in
    (e ∙ ap (λ o. Went o new) (sym f), sym (ap (λ o. log ++ with_event o []) f ∙ append-nil log))
quiet next (HasEnded h) old new log e = (e.0, e.1, refl)

-- what is known of a step that went
pub has_gone : (next : Next Event Halt ⊥ State) (moved : Moved) (old new : State) (before after : List Event) → IsStep next moved old new before after → moved ≡ HasGone → (next ≡ Went (event_in next) new) × (after ≡ before ++ with_event (event_in next) [])
has_gone next moved old new before after s e = let P : Moved → Type 0 = λ m. IsStep next m old new before after in subst P e s

-- and of one that ended
pub has_ended : (next : Next Event Halt ⊥ State) (moved : Moved) (old new : State) (before after : List Event) (h : Halt) → IsStep next moved old new before after → moved ≡ HasEnded h → (next ≡ Ended h) × (new ≡ old) × (after ≡ before)
has_ended next moved old new before after h s e = let P : Moved → Type 0 = λ m. IsStep next m old new before after in subst P e s
