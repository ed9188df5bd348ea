-- What a machine at the file's start leaves of its run is the file's trace.
use Rattle.std.proofs.Common.{◌≡◌, ℕ, List, [], ◌++◌, codes, sym, ap, ◌∙◌}
use Rattle.law_runs.specs.Runs.{RunsFor}
use Rattle.sq_system.specs.Lines.{events_text, end_text}
use Rattle.sq_system.specs.Starts.{Start}
use Rattle.sq_system.specs.declared.event.Event.{Event}
use Rattle.sq_system.specs.World.{World}
use Rattle.sq_machine.specs.State.{State}
use Rattle.sq_machine.specs.Steps.{step_of, trace_of, status_of}
use Rattle.sq_machine.specs.declared.moved.Outcome.{Outcome}
use Rattle.sq_run.specs.FileRuns.{file_world, file_state, file_trace}
use Rattle.sq_run.specs.Transcripts.{halt_of, trace_text}

module _ (file : List ℕ) (start : Start) (n : ℕ) (world : World) (old new : State) (same_world : world ≡ file_world file start) (same_state : old ≡ file_state file start) where
  trace_is : trace_of world n old ≡ file_trace file start n
  unfolding file_trace
  trace_is = λ i. trace_of (same_world i) n (same_state i)

  module _ (outcome : Outcome) (stands : (trace_of world n old).status ≡ status_of outcome) where
    pub status_is : (file_trace file start n).status ≡ status_of outcome
    status_is = sym (ap (λ t. t.status) trace_is) ∙ stands

    pub text_is : (before after : List Event) → before ≡ [] → RunsFor (step_of world) n old new before after →
        events_text after ++ (end_text (halt_of (status_of outcome)) ++ codes "\n") ≡ trace_text (file_trace file start n)
    unfolding trace_text
    text_is before after empty made =
        let events : after ≡ (file_trace file start n).events = made.events ∙ ap (λ es. es ++ (trace_of world n old).events) empty ∙ ap (λ t. t.events) trace_is in
        λ i. events_text (events i) ++ (end_text (halt_of (sym status_is i)) ++ codes "\n")
