-- The first break, and runs that have none.
use Rattle.std.proofs.Common.{◌≡◌, ◌↔◌, ℕ, zero, suc, ◌<◌, Option, Some, None, refl, ap, ◌∙◌, arith}
use Rattle.law_runs.specs.Runs.{Next, Went, Ended, Broke, Running, Trace, trace_from, trace, state_from, state_after, break_from, first_break, IsUnbroken, BreaksAt}

-- one step earlier
breaks_later : {E H B S : Type 0} (step : S → Next E H B S) (s t : S) (e : Option E) (k : ℕ) (b : B) → step s ≡ Went e t → BreaksAt step t k b → BreaksAt step s (suc k) b
breaks_later step s t e k b p h = record { running = rw p h.running; broke = rw p h.broke }

found_from : {E H B S : Type 0} (step : S → Next E H B S) (n : ℕ) (s : S) (b : B) (x : Next E H B S) → step s ≡ x → ((t : S) → first_break step n t ≡ Some b → (k : ℕ) × (k < n) × BreaksAt step t k b) → break_from x (first_break step n) ≡ Some b → (k : ℕ) × (k < suc n) × BreaksAt step s k b
found_from step n s b (Went e t) p f h =
    let r = f t h in (suc r.0, (let l : r.0 < n = r.1 in omega arith), breaks_later step s t e r.0 b p r.2)
found_from step n s b (Ended g) p f h = absurd (cc)
found_from step n s b (Broke c) p f h = let e : c ≡ b = cc in (0, omega arith, record { running = refl; broke = p ∙ ap Broke e })

-- the first break is the break that comes within n steps
pub first_break_found : {E H B S : Type 0} (step : S → Next E H B S) (n : ℕ) (s : S) (b : B) → first_break step n s ≡ Some b → (k : ℕ) × (k < n) × BreaksAt step s k b
first_break_found step zero s b h = absurd (cc)
first_break_found step (suc n) s b h = found_from step n s b (step s) refl (λ t. first_break_found step n t b) h

first_from : {E H B S : Type 0} (step : S → Next E H B S) (k n : ℕ) (b : B) (x : Next E H B S) (s : S) → ((t : S) → BreaksAt step t k b → first_break step n t ≡ Some b) → (trace_from x (trace step k)).status ≡ Running → step (state_from x s (state_after step k)) ≡ Broke b → break_from x (first_break step n) ≡ Some b
first_from step k n b (Went e t) s f r q = f t (record { running = r; broke = q })
first_from step k n b (Ended g) s f r q = absurd (cc)
first_from step k n b (Broke c) s f r q = absurd (cc)

pub first_break_is : {E H B S : Type 0} (step : S → Next E H B S) (n k : ℕ) (s : S) (b : B) → k < n → BreaksAt step s k b → first_break step n s ≡ Some b
first_break_is step zero k s b l h = absurd (omega arith)
first_break_is step (suc n) zero s b l h = rw h.broke refl
first_break_is step (suc n) (suc k) s b l h =
    first_from step k n b (step s) s (λ t g. first_break_is step n k t b (omega arith) g) h.running h.broke

-- a run is unbroken exactly where there is no first break
none_from : {E H B S : Type 0} (x : Next E H B S) (go : S → Trace E H) (first : S → Option B) → ((t : S) → IsUnbroken (go t) → first t ≡ None) → IsUnbroken (trace_from x go) → break_from x first ≡ None
none_from (Went e t) go first f u = f t u
none_from (Ended h) go first f u = refl
none_from (Broke b) go first f u = absurd u

pub unbroken_none : {E H B S : Type 0} (step : S → Next E H B S) (n : ℕ) (s : S) → IsUnbroken (trace step n s) → first_break step n s ≡ None
unbroken_none step zero s u = refl
unbroken_none step (suc n) s u = none_from (step s) (trace step n) (first_break step n) (unbroken_none step n) u

unbroken_from : {E H B S : Type 0} (x : Next E H B S) (go : S → Trace E H) (first : S → Option B) → ((t : S) → first t ≡ None → IsUnbroken (go t)) → break_from x first ≡ None → IsUnbroken (trace_from x go)
unbroken_from (Went e t) go first f p = f t p
unbroken_from (Ended h) go first f p = tt
unbroken_from (Broke b) go first f p = absurd (cc)

pub none_unbroken : {E H B S : Type 0} (step : S → Next E H B S) (n : ℕ) (s : S) → first_break step n s ≡ None → IsUnbroken (trace step n s)
none_unbroken step zero s p = tt
none_unbroken step (suc n) s p = unbroken_from (step s) (trace step n) (first_break step n) (none_unbroken step n) p

pub first_break_exact : {E H B S : Type 0} (step : S → Next E H B S) (n : ℕ) (s : S) (b : B) → (first_break step n s ≡ Some b) ↔ ((k : ℕ) × (k < n) × BreaksAt step s k b)
first_break_exact step n s b = (first_break_found step n s b, λ h. first_break_is step n h.0 s b h.1 h.2)

pub no_break : {E H B S : Type 0} (step : S → Next E H B S) (n : ℕ) (s : S) → IsUnbroken (trace step n s) ↔ (first_break step n s ≡ None)
no_break step n s = (unbroken_none step n s, none_unbroken step n s)
