-- One run that follows another, runs in lock step, and the same runs under a watch.
use Rattle.std.specs.Prelude.{◌≡◌, ℕ, List, ◌++◌}
use Rattle.law_runs.specs.Runs.{Next, Trace, trace, IsUnbroken, HasHalted}

-- xs is a prefix of ys
abbrev pub IsPrefix : {E : Type 0} → List E → List E → Type 0
IsPrefix {E} xs ys = (rest : List E) × (xs ++ rest ≡ ys)

-- The moment t leads to the moment u: its events are a prefix, and where it has halted the two are equal.
pub record LeadsTo {E H : Type 0} (t u : Trace E H) : Type 0 where
  pub events : IsPrefix t.events u.events
  pub halted : HasHalted t → u ≡ t

-- The run of b from t follows the run of a from s, while that is unbroken: each moment of a's run is one of
-- b's, and each moment of b's run leads to one of a's. b's run is then unbroken too.
pub record FollowsRuns {E H B C S T : Type 0} (a : S → Next E H B S) (s : S) (b : T → Next E H C T) (t : T) : Type 0 where
  pub kept : (n : ℕ) → IsUnbroken (trace a n s) → (m : ℕ) × IsUnbroken (trace b m t) × (trace b m t ≡ trace a n s)
  pub only : (m : ℕ) → (n : ℕ) × (IsUnbroken (trace a n s) → IsUnbroken (trace b m t) × LeadsTo (trace b m t) (trace a n s))

-- The two runs show the same after each number of steps, while the first is unbroken. The second is then unbroken too.
abbrev pub LocksWith : {E H B C S T : Type 0} → (S → Next E H B S) → S → (T → Next E H C T) → T → Type 0
LocksWith a s b t = (n : ℕ) → IsUnbroken (trace a n s) → IsUnbroken (trace b n t) × (trace b n t ≡ trace a n s)

-- The runs of two machines that never break are the same, while a watch of the first one's run is unbroken:
-- each moment of a's run is one of b's, and each moment of b's run leads to one of a's.
pub record SameRuns {E H B S T U : Type 0} (watch : U → Next E H B U) (u : U) (a : S → Next E H ⊥ S) (s : S) (b : T → Next E H ⊥ T) (t : T) : Type 0 where
  pub kept : (n : ℕ) → IsUnbroken (trace watch n u) → (m : ℕ) × (trace b m t ≡ trace a n s)
  pub only : (m : ℕ) → (n : ℕ) × (IsUnbroken (trace watch n u) → LeadsTo (trace b m t) (trace a n s))
