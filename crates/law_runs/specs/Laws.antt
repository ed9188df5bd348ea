-- The laws of runs, each as one statement.
use Rattle.std.specs.Prelude.{◌≡◌, ◌↔◌, ℕ, ◌+◌, ◌<◌, ◌≤◌, [], ◌++◌, Option, Some, None}
use Rattle.law_runs.specs.Runs.{Next, Went, Ended, Broke, Running, Halted, Broken, with_event, trace, state_after, first_break, IsUnbroken, HasHalted, IsOver, and_then, BreaksAt}
use Rattle.law_runs.specs.Follows.{LeadsTo, FollowsRuns, LocksWith, SameRuns}

-- After an end or a break what is seen stays the same.
abbrev pub Stay : {E H B S : Type 0} → (S → Next E H B S) → Type 0
Stay {S} step = (n m : ℕ) (s : S) → n ≤ m → IsOver (trace step n s) → trace step m s ≡ trace step n s

-- Each moment leads to the later ones.
abbrev pub Prefix : {E H B S : Type 0} → (S → Next E H B S) → Type 0
Prefix {S} step = (n m : ℕ) (s : S) → n ≤ m → LeadsTo (trace step n s) (trace step m s)

-- What is seen of n + k steps is what is seen of n, and then of k from the state after them.
abbrev pub Split : {E H B S : Type 0} → (S → Next E H B S) → Type 0
Split {S} step = (n k : ℕ) (s : S) → trace step (n + k) s ≡ and_then (trace step n s) (trace step k (state_after step n s))

-- The state after n + k steps is the one after k steps from the state after n.
abbrev pub StateSplit : {E H B S : Type 0} → (S → Next E H B S) → Type 0
StateSplit {S} step = (n k : ℕ) (s : S) → state_after step (n + k) s ≡ state_after step k (state_after step n s)

-- A step that goes on, behind steps that did: its event comes last.
abbrev pub StepGoesOn : {E H B S : Type 0} → (S → Next E H B S) → Type 0
StepGoesOn {E} {S} step = (n : ℕ) (s t : S) (e : Option E) → (trace step n s).status ≡ Running → step (state_after step n s) ≡ Went e t → (trace step (n + 1) s ≡ record { events = (trace step n s).events ++ with_event e []; status = Running }) × (state_after step (n + 1) s ≡ t)

-- A step that ends, behind steps that went on: what is seen from then on.
abbrev pub StepEnds : {E H B S : Type 0} → (S → Next E H B S) → Type 0
StepEnds {H} {S} step = (n m : ℕ) (s : S) (h : H) → (trace step n s).status ≡ Running → step (state_after step n s) ≡ Ended h → n < m → (trace step m s ≡ record { events = (trace step n s).events; status = Halted h }) × (state_after step m s ≡ state_after step n s)

-- A step that breaks, behind steps that went on: what is seen from then on.
abbrev pub StepBreaks : {E H B S : Type 0} → (S → Next E H B S) → Type 0
StepBreaks {B} {S} step = (n m : ℕ) (s : S) (b : B) → (trace step n s).status ≡ Running → step (state_after step n s) ≡ Broke b → n < m → (trace step m s ≡ record { events = (trace step n s).events; status = Broken }) × (state_after step m s ≡ state_after step n s) × (first_break step m s ≡ Some b)

-- What is unbroken was so before.
abbrev pub UnbrokenBefore : {E H B S : Type 0} → (S → Next E H B S) → Type 0
UnbrokenBefore {S} step = (n m : ℕ) (s : S) → n ≤ m → IsUnbroken (trace step m s) → IsUnbroken (trace step n s)

-- A run that has halted is unbroken for every number of steps.
abbrev pub UnbrokenAtHalt : {E H B S : Type 0} → (S → Next E H B S) → Type 0
UnbrokenAtHalt {S} step = (n m : ℕ) (s : S) → HasHalted (trace step n s) → IsUnbroken (trace step m s)

-- There is no first break exactly where the run is unbroken.
abbrev pub NoBreak : {E H B S : Type 0} → (S → Next E H B S) → Type 0
NoBreak {S} step = (n : ℕ) (s : S) → IsUnbroken (trace step n s) ↔ (first_break step n s ≡ None)

-- The first break is the one that comes within n steps.
abbrev pub FirstBreak : {E H B S : Type 0} → (S → Next E H B S) → Type 0
FirstBreak {B} {S} step = (n : ℕ) (s : S) (b : B) → (first_break step n s ≡ Some b) ↔ ((k : ℕ) × (k < n) × BreaksAt step s k b)

-- A machine that has no break is unbroken.
abbrev pub NeverBreaks : {E H S : Type 0} → (S → Next E H ⊥ S) → Type 0
NeverBreaks {S} step = (n : ℕ) (s : S) → IsUnbroken (trace step n s)

-- Each run follows itself.
abbrev pub FollowsItself : {E H B S : Type 0} → (S → Next E H B S) → Type 0
FollowsItself {S} a = (s : S) → FollowsRuns a s a s

-- What follows a follower follows.
abbrev pub FollowsThrough : {E H B C D S T U : Type 0} → (S → Next E H B S) → (T → Next E H C T) → (U → Next E H D U) → Type 0
FollowsThrough {S} {T} {U} a b c = (s : S) (t : T) (u : U) → FollowsRuns a s b t → FollowsRuns b t c u → FollowsRuns a s c u

-- Runs in lock step follow.
abbrev pub LockFollows : {E H B C S T : Type 0} → (S → Next E H B S) → (T → Next E H C T) → Type 0
LockFollows {S} {T} a b = (s : S) (t : T) → LocksWith a s b t → FollowsRuns a s b t

-- Where a watch sees a and locks with a run g, a run h follows g, and h locks with b, the runs of a and b are the same.
abbrev pub Assemble : {E H B C D S T U V W : Type 0} → (U → Next E H B U) → (S → Next E H ⊥ S) → (V → Next E H C V) → (W → Next E H D W) → (T → Next E H ⊥ T) → Type 0
Assemble {S} {T} {U} {V} {W} watch a g h b = (u : U) (s : S) (v : V) (w : W) (t : T) → LocksWith watch u a s → LocksWith watch u g v → FollowsRuns g v h w → LocksWith h w b t → SameRuns watch u a s b t
