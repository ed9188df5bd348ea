-- What is told of a run by its trace.
use Rattle.std.proofs.Common.{◌≡◌, ℕ, Some, None, sym, ap, ◌∙◌, subst, Option, refl}
use Rattle.law_runs.specs.Runs.{Status, Running, Halted, Broken, IsNotBroken, trace, state_after, first_break}
use Rattle.law_runs.proofs.Breaks.{unbroken_none}
use Rattle.sq_system.specs.declared.event.Halt.{Halt}
use Rattle.law_follow.specs.declared.kind.Kind.{Kind}
use Rattle.law_program.specs.Monitored.{Watched, Watches}
use Rattle.sq_monitor.specs.Steps.{told, outcome_of, outcome_at}
use Rattle.sq_monitor.specs.Outcomes.{BreaksAreTold, EndsAreTold, LimitsAreTold}
use Rattle.sq_monitor.specs.declared.moved.WatchOutcome.TheVariants.{Limit, Ended as EndedWith, Break}

module _ (step : Watched → Watches) (n : ℕ) (s : Watched) where
  told_unbroken : (status : Status Halt) → (trace step n s).status ≡ status → IsNotBroken status → outcome_of None status (state_after step n s).pc ≡ outcome_at step n s
  told_unbroken status e fine =
      let none : first_break step n s ≡ None = unbroken_none step n s (subst IsNotBroken (sym e) fine) in
      λ i. outcome_of (sym none i) (sym e i) (state_after step n s).pc

  pub told_limit : (trace step n s).status ≡ Running → Limit ≡ outcome_at step n s
  told_limit e = told_unbroken Running e tt

  pub told_end : (halt end : Halt) → halt ≡ told end → (trace step n s).status ≡ Halted end → EndedWith halt ≡ outcome_at step n s
  told_end halt end h e = ap EndedWith h ∙ told_unbroken (Halted end) e tt

  pub told_break : (kind : Kind) (pc : ℕ) → pc ≡ (state_after step n s).pc → first_break step n s ≡ Some kind → Break pc kind ≡ outcome_at step n s
  told_break kind pc p e =
      ap (λ x. Break x kind) p ∙ ap (λ b. outcome_of b (trace step n s).status (state_after step n s).pc) (sym e)

break_of : (b : Option Kind) (status : Status Halt) (pc : ℕ) (kind : Kind) → outcome_of b status pc ≡ Break pc kind → b ≡ Some kind
break_of (Some other) status pc kind e = let same : other ≡ kind = cc in ap Some same
break_of None Running pc kind e = absurd (cc)
break_of None (Halted halt) pc kind e = absurd (cc)
break_of None Broken pc kind e = absurd (cc)

pub breaks_are_told : BreaksAreTold
breaks_are_told step n s kind = (
  break_of (first_break step n s) (trace step n s).status (state_after step n s).pc kind,
  λ e. sym (told_break step n s kind (state_after step n s).pc refl e),
)

pub ends_are_told : EndsAreTold
ends_are_told step n s halt e = sym (told_end step n s (told halt) halt refl e)

pub limits_are_told : LimitsAreTold
limits_are_told step n s e = sym (told_limit step n s e)
