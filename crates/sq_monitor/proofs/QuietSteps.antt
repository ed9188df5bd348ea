-- Steps without an event, as steps with a log; and what is known of a step by its answer.
use Rattle.std.proofs.Common.{◌≡◌, List, [], ◌++◌, None, refl, sym, ap, ◌∙◌, subst}
use Rattle.std.proofs.lemmas.List.{append-nil}
use Rattle.law_runs.specs.Runs.{Went, Ended, Broke, with_event}
use Rattle.sq_system.specs.declared.event.Event.{Event}
use Rattle.sq_system.specs.declared.event.Halt.{Halt}
use Rattle.law_follow.specs.declared.kind.Kind.{Kind}
use Rattle.law_program.specs.Monitored.{Watched, Watches}
use Rattle.sq_monitor.specs.Steps.{IsQuietStep, IsStep, IsWatchedStep, event_in, told}
use Rattle.sq_monitor.specs.declared.moved.Moved.{Moved}
use Rattle.sq_monitor.specs.declared.moved.Moved.TheVariants.{Went as HasGone, Ended as HasEnded, Broke as HasBroken}

pub quiet : (next : Watches) (moved : Moved) (old new : Watched) (log : List Event) → IsQuietStep next moved old new → IsStep next moved old new log log
quiet next HasGone old new log e =
    let f : event_in next ≡ event_in (Went None new) = ap event_in e in
    (e ∙ ap (λ o. Went o new) (sym f), sym (ap (λ o. log ++ with_event o []) f ∙ append-nil log))
quiet next (HasEnded halt) old new log e = (e.0, e.1, refl)
quiet next (HasBroken kind) old new log e = (e.0, e.1, refl)

-- what is known of a step that went
pub has_gone : (next : Watches) (moved : Moved) (old new : Watched) (before after : List Event) → IsWatchedStep next moved old new before after → moved ≡ HasGone → (next ≡ Went (event_in next) new) × (after ≡ before ++ with_event (event_in next) [])
has_gone next moved old new before after s e = let P : Moved → Type 0 = λ m. IsWatchedStep next m old new before after in subst P e s

-- of one that ended
pub has_ended : (next : Watches) (moved : Moved) (old new : Watched) (before after : List Event) (halt : Halt) → IsWatchedStep next moved old new before after → moved ≡ HasEnded halt → ((end : Halt) × (next ≡ Ended end) × (halt ≡ told end)) × (new ≡ old) × (after ≡ before)
has_ended next moved old new before after halt s e = let P : Moved → Type 0 = λ m. IsWatchedStep next m old new before after in subst P e s

-- and of one that broke
pub has_broken : (next : Watches) (moved : Moved) (old new : Watched) (before after : List Event) (kind : Kind) → IsWatchedStep next moved old new before after → moved ≡ HasBroken kind → (next ≡ Broke kind) × (new ≡ old) × (after ≡ before)
has_broken next moved old new before after kind s e = let P : Moved → Type 0 = λ m. IsWatchedStep next m old new before after in subst P e s
