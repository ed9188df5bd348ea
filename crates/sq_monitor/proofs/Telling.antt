-- What a watch at the file's start leaves of its run is told by the file's monitored run.
use Rattle.std.proofs.Common.{◌≡◌, ℕ, List, [], ◌++◌, codes, ap, ap₂, ◌∙◌}
use Rattle.law_runs.specs.Runs.{RunsFor, trace}
use Rattle.sq_system.specs.Lines.{events_text}
use Rattle.sq_system.specs.Starts.{Start}
use Rattle.sq_system.specs.World.{World}
use Rattle.sq_system.specs.declared.event.Event.{Event}
use Rattle.law_program.specs.Programs.{Text, Program}
use Rattle.law_program.specs.Monitored.{Watched, monitored_step}
use Rattle.law_program.specs.FileRuns.{world_of, watched_start, watched_layout, monitored_trace}
use Rattle.sq_monitor.specs.Steps.{outcome_at}
use Rattle.sq_monitor.specs.Transcripts.{file_outcome, outcome_text, transcript_text}
use Rattle.sq_monitor.specs.declared.moved.WatchOutcome.{WatchOutcome}

module _ (bytes : List ℕ) (p : Program) (start : Start) (n : ℕ) (layout : World) (text : Text) (old new : Watched)
    (same_layout : layout ≡ watched_layout bytes p start) (same_text : text ≡ p.text) (same_state : old ≡ watched_start (world_of bytes p) p start) where
  pub outcome_is : (outcome : WatchOutcome) → outcome ≡ outcome_at (monitored_step layout text) n old → outcome ≡ file_outcome bytes p start n
  unfolding file_outcome
  outcome_is outcome e = e ∙ (λ i. outcome_at (monitored_step (same_layout i) (same_text i)) n (same_state i))

  pub text_is : (outcome : WatchOutcome) → outcome ≡ outcome_at (monitored_step layout text) n old → (before after : List Event) → before ≡ [] → RunsFor (monitored_step layout text) n old new before after →
      events_text after ++ (outcome_text outcome ++ codes "\n") ≡ transcript_text bytes p start n
  unfolding transcript_text
  text_is outcome e before after empty made =
      let events : after ≡ (monitored_trace bytes p start n).events =
      made.events ∙ ap (λ es. es ++ (trace (monitored_step layout text) n old).events) empty
      ∙ (λ i. (trace (monitored_step (same_layout i) (same_text i)) n (same_state i)).events) in
      ap₂ (λ es o. events_text es ++ (outcome_text o ++ codes "\n")) events (outcome_is outcome e)
