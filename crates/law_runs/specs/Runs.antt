-- Runs of deterministic machines: what one step gives, and what is seen of the first n steps.
use Rattle.std.specs.Prelude.{◌≡◌, ℕ, zero, suc, List, [], ◌∷◌, ◌++◌, Option, Some, None}

-- What one step gives: a next state with at most one event, an end, or a break, which says what broke.
pub data Next (E H B S : Type 0) : Type 0 where
  Went : Option E → S → Next E H B S
  Ended : H → Next E H B S
  Broke : B → Next E H B S

-- How a run stands after some steps.
pub data Status (H : Type 0) : Type 0 where
  Running : Status H
  Halted : H → Status H
  Broken : Status H

-- What is seen of some steps: their events, and how the run stands after them.
pub record Trace (E H : Type 0) : Type 0 where
  pub events : List E
  pub status : Status H

-- these events, behind one where there is one
abbrev pub with_event : {E : Type 0} → Option E → List E → List E
with_event None es = es
with_event (Some e) es = e ∷ es

-- the trace behind at most one event
abbrev pub after_event : {E H : Type 0} → Option E → Trace E H → Trace E H
after_event e t = record { events = with_event e t.events; status = t.status }

-- what is seen from a step on, where go is what is seen behind it
abbrev pub trace_from : {E H B S : Type 0} → Next E H B S → (S → Trace E H) → Trace E H
trace_from (Went e s) go = after_event e (go s)
trace_from (Ended h) go = record { events = []; status = Halted h }
trace_from (Broke b) go = record { events = []; status = Broken }

-- What is seen of the first n steps. After an end or a break nothing follows.
abbrev pub trace : {E H B S : Type 0} → (S → Next E H B S) → ℕ → S → Trace E H
trace step zero s = record { events = []; status = Running }
trace step (suc n) s = trace_from (step s) (trace step n)

-- the state behind a step, or the state itself where the step ends or breaks
abbrev pub state_from : {E H B S : Type 0} → Next E H B S → S → (S → S) → S
state_from (Went e t) s go = go t
state_from (Ended h) s go = s
state_from (Broke b) s go = s

-- The state after the first n steps. A step that ends or breaks changes nothing.
abbrev pub state_after : {E H B S : Type 0} → (S → Next E H B S) → ℕ → S → S
state_after step zero s = s
state_after step (suc n) s = state_from (step s) s (state_after step n)

-- the break of this step, or of those behind it
abbrev pub break_from : {E H B S : Type 0} → Next E H B S → (S → Option B) → Option B
break_from (Went e s) go = go s
break_from (Ended h) go = None
break_from (Broke b) go = Some b

-- The break that is met within the first n steps, where one is.
abbrev pub first_break : {E H B S : Type 0} → (S → Next E H B S) → ℕ → S → Option B
first_break step zero s = None
first_break step (suc n) s = break_from (step s) (first_break step n)

-- no step was a break
abbrev pub IsNotBroken : {H : Type 0} → Status H → Type 0
IsNotBroken Running = Unit {0}
IsNotBroken (Halted h) = Unit {0}
IsNotBroken Broken = ⊥

abbrev pub IsUnbroken : {E H : Type 0} → Trace E H → Type 0
IsUnbroken t = IsNotBroken t.status

-- a step was the end, which is no break
abbrev pub IsHalted : {H : Type 0} → Status H → Type 0
IsHalted Running = ⊥
IsHalted (Halted h) = Unit {0}
IsHalted Broken = ⊥

abbrev pub HasHalted : {E H : Type 0} → Trace E H → Type 0
HasHalted t = IsHalted t.status

-- a step was the end or a break
abbrev pub IsEnd : {H : Type 0} → Status H → Type 0
IsEnd Running = ⊥
IsEnd (Halted h) = Unit {0}
IsEnd Broken = Unit {0}

-- nothing follows
abbrev pub IsOver : {E H : Type 0} → Trace E H → Type 0
IsOver t = IsEnd t.status

-- u behind t, where t still runs; t itself where it is over
abbrev pub and_then_from : {E H : Type 0} → Status H → Trace E H → Trace E H → Trace E H
and_then_from Running t u = record { events = t.events ++ u.events; status = u.status }
and_then_from (Halted h) t u = t
and_then_from Broken t u = t

abbrev pub and_then : {E H : Type 0} → Trace E H → Trace E H → Trace E H
and_then t u = and_then_from t.status t u

-- After k steps the run still runs, and the next step is the break b.
pub record BreaksAt {E H B S : Type 0} (step : S → Next E H B S) (s : S) (k : ℕ) (b : B) : Type 0 where
  pub running : (trace step k s).status ≡ Running
  pub broke : step (state_after step k s) ≡ Broke b

-- n steps were made: they lead from old to new, and a log grew from before to after by their events.
pub record RunsFor {E H B S : Type 0} (step : S → Next E H B S) (n : ℕ) (old new : S) (before after : List E) : Type 0 where
  pub state : new ≡ state_after step n old
  pub events : after ≡ before ++ (trace step n old).events

-- a result with its state and its break as f and g give them
abbrev pub map_next : {E H B C S T : Type 0} → (S → T) → (B → C) → Next E H B S → Next E H C T
map_next f g (Went e s) = Went e (f s)
map_next f g (Ended h) = Ended h
map_next f g (Broke b) = Broke (g b)
