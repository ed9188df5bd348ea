-- Simulations: the first run may skip silent steps, then the second, and then both make one matching step.
-- All is said of what the next step gives, so two states whose next steps compute to one are one.
use Rattle.std.specs.Prelude.{◌≡◌, ℕ, zero, suc, Some, None}
use Rattle.law_runs.specs.Runs.{Next, Went, Ended, Broke}

-- a silent step to a state with P, or a break
abbrev pub Silent : {E H B S : Type 0} → Next E H B S → (S → Type 0) → Type 0
Silent (Went None s) P = P s
Silent (Went (Some e) s) P = ⊥
Silent (Ended h) P = ⊥
Silent (Broke b) P = Unit {0}

-- a silent step to a state with P, and no break
abbrev pub Quiet : {E H B S : Type 0} → Next E H B S → (S → Type 0) → Type 0
Quiet (Went None s) P = P s
Quiet (Went (Some e) s) P = ⊥
Quiet (Ended h) P = ⊥
Quiet (Broke b) P = ⊥

-- after i silent steps, of which x is the first, the next step has P; or one of them is a break
abbrev pub Skips : {E H B S : Type 0} → (S → Next E H B S) → ℕ → (Next E H B S → Type 0) → Next E H B S → Type 0
Skips step zero P x = P x
Skips step (suc i) P x = Silent x (λ s. Skips step i P (step s))

-- after j silent steps, of which y is the first, the next step has P
abbrev pub Goes : {E H B S : Type 0} → (S → Next E H B S) → ℕ → (Next E H B S → Type 0) → Next E H B S → Type 0
Goes step zero P y = P y
Goes step (suc j) P y = Quiet y (λ s. Goes step j P (step s))

-- the same end, or the same event to states that are related; after a break of the first anything
abbrev pub Matches : {E H B C S T : Type 0} → (S → T → Type 0) → Next E H B S → Next E H C T → Type 0
Matches R (Went e s) (Went f t) = (f ≡ e) × R s t
Matches R (Went e s) (Ended h) = ⊥
Matches R (Went e s) (Broke c) = ⊥
Matches R (Ended h) (Went f t) = ⊥
Matches R (Ended h) (Ended g) = g ≡ h
Matches R (Ended h) (Broke c) = ⊥
Matches R (Broke b) y = Unit {0}

-- From the next steps x of a and y of b on: a skips to where it breaks, or both skip to steps that match.
abbrev pub Meets : {E H B C S T : Type 0} → (S → Next E H B S) → (T → Next E H C T) → (S → T → Type 0) → Next E H B S → Next E H C T → Type 0
Meets a b R x y = (i : ℕ) × Skips a i (λ x'. (j : ℕ) × Goes b j (Matches R x') y) x

-- A simulation: related states meet.
abbrev pub Simulates : {E H B C S T : Type 0} → (S → Next E H B S) → (T → Next E H C T) → (S → T → Type 0) → Type 0
Simulates {S} {T} a b R = (s : S) (t : T) → R s t → Meets a b R (a s) (b t)

-- A simulation in lock step: the next steps of related states match.
abbrev pub SimulatesInStep : {E H B C S T : Type 0} → (S → Next E H B S) → (T → Next E H C T) → (S → T → Type 0) → Type 0
SimulatesInStep {S} {T} a b R = (s : S) (t : T) → R s t → Matches R (a s) (b t)
