-- What the outcome of a run tells, as laws.
use Rattle.std.specs.Prelude.{◌≡◌, ◌↔◌, ℕ, Some}
use Rattle.law_runs.specs.Runs.{Running, Halted, trace, state_after, first_break}
use Rattle.sq_system.specs.declared.event.Halt.{Halt}
use Rattle.law_follow.specs.declared.kind.Kind.{Kind}
use Rattle.law_program.specs.Monitored.{Watched, Watches}
use Rattle.sq_monitor.specs.Steps.{told, outcome_at}
use Rattle.sq_monitor.specs.declared.moved.WatchOutcome.TheVariants.{Limit, Ended, Break}

-- a break is told exactly where it is the first one of these steps
abbrev pub BreaksAreTold : Type 0
BreaksAreTold = (step : Watched → Watches) (n : ℕ) (s : Watched) (kind : Kind) →
    (outcome_at step n s ≡ Break (state_after step n s).pc kind) ↔ (first_break step n s ≡ Some kind)

-- an end is told where the run has ended
abbrev pub EndsAreTold : Type 0
EndsAreTold = (step : Watched → Watches) (n : ℕ) (s : Watched) (halt : Halt) →
    (trace step n s).status ≡ Halted halt → outcome_at step n s ≡ Ended (told halt)

-- a limit is told where the run still runs
abbrev pub LimitsAreTold : Type 0
LimitsAreTold = (step : Watched → Watches) (n : ℕ) (s : Watched) →
    (trace step n s).status ≡ Running → outcome_at step n s ≡ Limit
