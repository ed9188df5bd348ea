-- Rows without an event, as rows with a log.
use Rattle.std.proofs.Common.{◌≡◌, List, [], ◌++◌, refl, sym, ap, ◌∙◌}
use Rattle.std.proofs.lemmas.List.{append-nil}
use Rattle.law_runs.specs.Runs.{Went, with_event}
use Rattle.sq_system.specs.declared.event.Event.{Event}
use Rattle.law_follow.specs.Settings.{Store}
use Rattle.law_follow.specs.Accesses.{Step, gives}
use Rattle.sq_tagged.specs.Views.{value_of}
use Rattle.sq_tagged.specs.Rows.{IsQuiet, IsMade, event_in}
use Rattle.sq_tagged.specs.declared.made.Made.{Made}
use Rattle.sq_tagged.specs.declared.made.Made.TheVariants.{Gives, Ends, Breaks}

pub quiet : (step : Step) (made : Made) (old new : Store) (log : List Event) → IsQuiet step made old new → IsMade step made old new log log
quiet step (Gives value) old new log e =
    let f : event_in step ≡ event_in (gives (value_of value) new) = ap event_in e in
    (e ∙ ap (λ o. Went o (record { value = value_of value; store = new })) (sym f), sym (ap (λ o. log ++ with_event o []) f ∙ append-nil log))
quiet step (Ends halt) old new log e = (e.0, e.1, refl)
quiet step (Breaks kind) old new log e = (e.0, e.1, refl)
