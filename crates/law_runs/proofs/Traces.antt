-- Traces as the number of steps grows.
use Rattle.std.proofs.Common.{◌≡◌, ℕ, zero, suc, ◌+◌, ◌≤◌, List, [], ◌∷◌, ◌++◌, Option, Some, None, refl, sym, ap, ◌∙◌, subst, arith}
use Rattle.std.proofs.Math.Nat.{zero-add, suc-add}
use Rattle.std.proofs.lemmas.List.{append-nil, append_assoc}
use Rattle.law_runs.specs.Runs.{Next, Went, Ended, Broke, Status, Running, Halted, Broken, Trace, after_event, trace_from, trace, state_from, state_after, IsUnbroken, HasHalted, IsOver, and_then}
use Rattle.law_runs.specs.Follows.{LeadsTo}

-- A run that is over stays as it is.
stay_from : {E H B S : Type 0} (x : Next E H B S) (go later : S → Trace E H) → ((t : S) → IsOver (go t) → later t ≡ go t) → IsOver (trace_from x go) → trace_from x later ≡ trace_from x go
stay_from (Went e t) go later f o = ap (after_event e) (f t o)
stay_from (Ended h) go later f o = refl
stay_from (Broke b) go later f o = refl

pub stay : {E H B S : Type 0} (step : S → Next E H B S) (n m : ℕ) (s : S) → n ≤ m → IsOver (trace step n s) → trace step m s ≡ trace step n s
stay step zero m s l o = absurd o
stay step (suc n) zero s l o = absurd (omega arith)
stay step (suc n) (suc m) s l o =
    stay_from (step s) (trace step n) (trace step m) (λ t. stay step n m t (omega arith)) o

-- LeadsTo is reflexive and transitive, and an event in front keeps it.
pub leads_refl : {E H : Type 0} (t : Trace E H) → LeadsTo t t
leads_refl t = record { events = ([], append-nil t.events); halted = λ h. refl }

pub leads_trans : {E H : Type 0} (t u v : Trace E H) → LeadsTo t u → LeadsTo u v → LeadsTo t v
leads_trans t u v k l = record {
  events = (
    k.events.0 ++ l.events.0,
    sym (append_assoc t.events k.events.0 l.events.0) ∙ (ap (λ es. es ++ l.events.0) k.events.1 ∙ l.events.1),
  );
  halted = λ h. l.halted (subst HasHalted (sym (k.halted h)) h) ∙ k.halted h;
}

pub leads_after_event : {E H : Type 0} (e : Option E) (t u : Trace E H) → LeadsTo t u → LeadsTo (after_event e t) (after_event e u)
leads_after_event None t u l = record { events = l.events; halted = λ h. ap (after_event None) (l.halted h) }
leads_after_event (Some e) t u l = record {
  events = (l.events.0, ap (λ es. e ∷ es) l.events.1);
  halted = λ h. ap (after_event (Some e)) (l.halted h);
}

-- An earlier moment leads to each later one.
grow_from : {E H B S : Type 0} (x : Next E H B S) (go later : S → Trace E H) → ((t : S) → LeadsTo (go t) (later t)) → LeadsTo (trace_from x go) (trace_from x later)
grow_from (Went e t) go later f = leads_after_event e (go t) (later t) (f t)
grow_from (Ended h) go later f = leads_refl (record { events = []; status = Halted h })
grow_from (Broke b) go later f = leads_refl (record { events = []; status = Broken })

pub grow : {E H B S : Type 0} (step : S → Next E H B S) (n m : ℕ) (s : S) → n ≤ m → LeadsTo (trace step n s) (trace step m s)
grow step zero m s l = record { events = ((trace step m s).events, refl); halted = λ h. absurd h }
grow step (suc n) zero s l = absurd (omega arith)
grow step (suc n) (suc m) s l = grow_from (step s) (trace step n) (trace step m) (λ t. grow step n m t (omega arith))

-- Steps before unbroken ones are unbroken.
before_from : {E H B S : Type 0} (x : Next E H B S) (go later : S → Trace E H) → ((t : S) → IsUnbroken (later t) → IsUnbroken (go t)) → IsUnbroken (trace_from x later) → IsUnbroken (trace_from x go)
before_from (Went e t) go later f u = f t u
before_from (Ended h) go later f u = u
before_from (Broke b) go later f u = u

pub unbroken_before : {E H B S : Type 0} (step : S → Next E H B S) (n m : ℕ) (s : S) → n ≤ m → IsUnbroken (trace step m s) → IsUnbroken (trace step n s)
unbroken_before step zero m s l u = tt
unbroken_before step (suc n) zero s l u = absurd (omega arith)
unbroken_before step (suc n) (suc m) s l u =
    before_from (step s) (trace step n) (trace step m) (λ t. unbroken_before step n m t (omega arith)) u

-- A run that has halted is unbroken for every number of steps.
halted_from : {E H B S : Type 0} (x : Next E H B S) (go other : S → Trace E H) → ((t : S) → HasHalted (go t) → IsUnbroken (other t)) → HasHalted (trace_from x go) → IsUnbroken (trace_from x other)
halted_from (Went e t) go other f h = f t h
halted_from (Ended g) go other f h = tt
halted_from (Broke b) go other f h = absurd h

pub halted_unbroken : {E H B S : Type 0} (step : S → Next E H B S) (n m : ℕ) (s : S) → HasHalted (trace step n s) → IsUnbroken (trace step m s)
halted_unbroken step zero m s h = absurd h
halted_unbroken step (suc n) zero s h = tt
halted_unbroken step (suc n) (suc m) s h =
    halted_from (step s) (trace step n) (trace step m) (λ t. halted_unbroken step n m t) h

-- A machine that has no break never breaks.
never_from : {E H S : Type 0} (x : Next E H ⊥ S) (go : S → Trace E H) → ((t : S) → IsUnbroken (go t)) → IsUnbroken (trace_from x go)
never_from (Went e t) go f = f t
never_from (Ended h) go f = tt
never_from (Broke b) go f = absurd b

pub never_breaks : {E H S : Type 0} (step : S → Next E H ⊥ S) (n : ℕ) (s : S) → IsUnbroken (trace step n s)
never_breaks step zero s = tt
never_breaks step (suc n) s = never_from (step s) (trace step n) (never_breaks step n)

-- A run is split into its first steps and those behind them.
and_then_after_event : {E H : Type 0} (e : Option E) (es : List E) (x : Status H) (u : Trace E H) → let t : Trace E H = record { events = es; status = x } in after_event e (and_then t u) ≡ and_then (after_event e t) u
and_then_after_event None es Running u = refl
and_then_after_event (Some e) es Running u = refl
and_then_after_event None es (Halted h) u = refl
and_then_after_event (Some e) es (Halted h) u = refl
and_then_after_event None es Broken u = refl
and_then_after_event (Some e) es Broken u = refl

split_from : {E H B S : Type 0} (x : Next E H B S) (s : S) (go both more : S → Trace E H) (after : S → S) → ((t : S) → both t ≡ and_then (go t) (more (after t))) → trace_from x both ≡ and_then (trace_from x go) (more (state_from x s after))
split_from (Went e t) s go both more after f =
    ap (after_event e) (f t) ∙ and_then_after_event e (go t).events (go t).status (more (after t))
split_from (Ended h) s go both more after f = refl
split_from (Broke b) s go both more after f = refl

pub split : {E H B S : Type 0} (step : S → Next E H B S) (n k : ℕ) (s : S) → trace step (n + k) s ≡ and_then (trace step n s) (trace step k (state_after step n s))
split step zero k s = rw zero-add refl
split step (suc n) k s =
    rw suc-add (split_from (step s) s (trace step n) (trace step (n + k)) (trace step k) (state_after step n) (split step n k))

-- so is the state
pub stays : {E H B S : Type 0} (step : S → Next E H B S) (k : ℕ) (s : S) → ((go : S → S) → state_from (step s) s go ≡ s) → state_after step k s ≡ s
stays step zero s f = refl
stays step (suc k) s f = f (state_after step k)

state_split_from : {E H B S : Type 0} (step : S → Next E H B S) (k : ℕ) (s : S) (x : Next E H B S) → step s ≡ x → (both after : S → S) → ((t : S) → both t ≡ state_after step k (after t)) → state_from x s both ≡ state_after step k (state_from x s after)
state_split_from step k s (Went e t) p both after f = f t
state_split_from step k s (Ended h) p both after f = sym (stays step k s (λ go. ap (λ x. state_from x s go) p))
state_split_from step k s (Broke b) p both after f = sym (stays step k s (λ go. ap (λ x. state_from x s go) p))

pub state_split : {E H B S : Type 0} (step : S → Next E H B S) (n k : ℕ) (s : S) → state_after step (n + k) s ≡ state_after step k (state_after step n s)
state_split step zero k s = rw zero-add refl
state_split step (suc n) k s =
    rw suc-add (state_split_from step k s (step s) refl (state_after step (n + k)) (state_after step n) (state_split step n k))
