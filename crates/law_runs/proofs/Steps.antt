-- One step behind n steps: what a loop over steps needs.
use Rattle.std.proofs.Common.{◌≡◌, ℕ, ◌+◌, ◌-◌, ◌<◌, ◌≤◌, [], ◌++◌, Option, Some, refl, sym, ap, ◌∙◌, subst, arith}
use Rattle.std.proofs.lemmas.List.{append-nil}
use Rattle.law_runs.specs.Runs.{Next, Went, Ended, Broke, Running, Halted, Broken, with_event, trace, state_after, first_break, IsOver}
use Rattle.law_runs.specs.Laws.{StepGoesOn, StepEnds, StepBreaks}
use Rattle.law_runs.proofs.Traces.{stay, split, stays, state_split}
use Rattle.law_runs.proofs.Breaks.{first_break_is}

-- A step that goes on, behind steps that do.
pub trace_went : {E H B S : Type 0} (step : S → Next E H B S) (n : ℕ) (s t : S) (e : Option E) → (trace step n s).status ≡ Running → step (state_after step n s) ≡ Went e t → trace step (n + 1) s ≡ record { events = (trace step n s).events ++ with_event e []; status = Running }
trace_went step n s t e r p = split step n 1 s ∙ rw (r, p) refl

pub state_went : {E H B S : Type 0} (step : S → Next E H B S) (n : ℕ) (s t : S) (e : Option E) → step (state_after step n s) ≡ Went e t → state_after step (n + 1) s ≡ t
state_went step n s t e p = state_split step n 1 s ∙ rw p refl

-- An end behind steps that go on: the trace from then on.
pub trace_ended : {E H B S : Type 0} (step : S → Next E H B S) (n m : ℕ) (s : S) (h : H) → (trace step n s).status ≡ Running → step (state_after step n s) ≡ Ended h → n < m → trace step m s ≡ record { events = (trace step n s).events; status = Halted h }
trace_ended {E} {H} step n m s h r p l =
    let at : trace step (n + 1) s ≡ record { events = (trace step n s).events; status = Halted h } = split step n 1 s ∙ rw (r, p, append-nil) refl in
    stay step (n + 1) m s (omega arith) (subst IsOver (sym at) tt) ∙ at

-- A break behind steps that go on: the trace from then on, and the first break.
pub trace_broke : {E H B S : Type 0} (step : S → Next E H B S) (n m : ℕ) (s : S) (b : B) → (trace step n s).status ≡ Running → step (state_after step n s) ≡ Broke b → n < m → trace step m s ≡ record { events = (trace step n s).events; status = Broken }
trace_broke step n m s b r p l =
    let at : trace step (n + 1) s ≡ record { events = (trace step n s).events; status = Broken } = split step n 1 s ∙ rw (r, p, append-nil) refl in
    stay step (n + 1) m s (omega arith) (subst IsOver (sym at) tt) ∙ at

pub break_met : {E H B S : Type 0} (step : S → Next E H B S) (n m : ℕ) (s : S) (b : B) → (trace step n s).status ≡ Running → step (state_after step n s) ≡ Broke b → n < m → first_break step m s ≡ Some b
break_met step n m s b r p l = first_break_is step m n s b l (record { running = r; broke = p })

-- A step that ends or breaks leaves the state as it is, from then on.
pub state_ended : {E H B S : Type 0} (step : S → Next E H B S) (n m : ℕ) (s : S) (h : H) → step (state_after step n s) ≡ Ended h → n ≤ m → state_after step m s ≡ state_after step n s
state_ended step n m s h p l =
    let e : m ≡ n + (m - n) = omega arith in
    ap (λ k. state_after step k s) e ∙ (state_split step n (m - n) s ∙ stays step (m - n) (state_after step n s) (λ go. rw p refl))

pub state_broke : {E H B S : Type 0} (step : S → Next E H B S) (n m : ℕ) (s : S) (b : B) → step (state_after step n s) ≡ Broke b → n ≤ m → state_after step m s ≡ state_after step n s
state_broke step n m s b p l =
    let e : m ≡ n + (m - n) = omega arith in
    ap (λ k. state_after step k s) e ∙ (state_split step n (m - n) s ∙ stays step (m - n) (state_after step n s) (λ go. rw p refl))

-- Each of the three, whole.
pub step_goes_on : {E H B S : Type 0} (step : S → Next E H B S) → StepGoesOn step
step_goes_on step n s t e r p = (trace_went step n s t e r p, state_went step n s t e p)

pub step_ends : {E H B S : Type 0} (step : S → Next E H B S) → StepEnds step
step_ends step n m s h r p l = (trace_ended step n m s h r p l, state_ended step n m s h p (omega arith))

pub step_breaks : {E H B S : Type 0} (step : S → Next E H B S) → StepBreaks step
step_breaks step n m s b r p l = (trace_broke step n m s b r p l, state_broke step n m s b p (omega arith), break_met step n m s b r p l)
