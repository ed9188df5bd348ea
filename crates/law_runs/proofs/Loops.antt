-- A loop over steps: what it keeps, and what it has done at an end or a break.
use Rattle.std.proofs.Common.{◌≡◌, ℕ, ◌+◌, ◌<◌, List, [], ◌++◌, Option, Some, refl, sym, ap, ◌∙◌}
use Rattle.std.proofs.lemmas.List.{append-nil, append_assoc}
use Rattle.law_runs.specs.Runs.{Next, Went, Ended, Broke, Running, Halted, Broken, Trace, with_event, trace, first_break, RunsFor}
use Rattle.law_runs.proofs.Steps.{step_goes_on, step_ends, step_breaks}

-- The invariant: i steps were made, and the run still runs.
pub record Going {E H B S : Type 0} (step : S → Next E H B S) (i : ℕ) (old now : S) (before log : List E) : Type 0 where
  pub running : (trace step i old).status ≡ Running
  pub made : RunsFor step i old now before log

module _ {E H B S : Type 0} (step : S → Next E H B S) where
  -- before the first step
  pub start : (s : S) (log : List E) → Going step 0 s s log log
  start s log = record { running = refl; made = record { state = refl; events = sym (append-nil log) } }

  -- behind a step that went on
  pub turn : {i : ℕ} {old now next : S} {before log after : List E} (e : Option E) → Going step i old now before log → step now ≡ Went e next → after ≡ log ++ with_event e [] → Going step (i + 1) old next before after
  turn {i} {old} {next = next} {before = before} e g p q =
      let s = step_goes_on step i old next e g.running (ap step (sym g.made.state) ∙ p) in record {
        running = ap (λ (t : Trace E H). t.status) s.0;
        made = record {
          state = sym s.1;
          events = q ∙ (ap (λ es. es ++ with_event e []) g.made.events ∙ (append_assoc before (trace step i old).events (with_event e []) ∙ ap (λ (t : Trace E H). before ++ t.events) (sym s.0)));
        };
      }

  -- at a step that ends, after which nothing more is done
  pub ended : {i n : ℕ} {old now next : S} {before log after : List E} (h : H) → i < n → Going step i old now before log → step now ≡ Ended h → next ≡ now → after ≡ log → RunsFor step n old next before after × ((trace step n old).status ≡ Halted h)
  ended {i} {n} {old} {before = before} h l g p q r =
      let s = step_ends step i n old h g.running (ap step (sym g.made.state) ∙ p) l in (
        record { state = q ∙ (g.made.state ∙ sym s.1); events = r ∙ (g.made.events ∙ ap (λ (t : Trace E H). before ++ t.events) (sym s.0)) },
        ap (λ (t : Trace E H). t.status) s.0,
      )

  -- at a step that breaks
  pub broken : {i n : ℕ} {old now next : S} {before log after : List E} (b : B) → i < n → Going step i old now before log → step now ≡ Broke b → next ≡ now → after ≡ log → RunsFor step n old next before after × ((trace step n old).status ≡ Broken) × (first_break step n old ≡ Some b)
  broken {i} {n} {old} {before = before} b l g p q r =
      let s = step_breaks step i n old b g.running (ap step (sym g.made.state) ∙ p) l in (
        record { state = q ∙ (g.made.state ∙ sym s.1); events = r ∙ (g.made.events ∙ ap (λ (t : Trace E H). before ++ t.events) (sym s.0)) },
        ap (λ (t : Trace E H). t.status) s.0,
        s.2,
      )
