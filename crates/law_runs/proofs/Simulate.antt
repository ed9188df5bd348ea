-- A simulation gives following, and one in lock step gives lock step.
use Rattle.std.proofs.Common.{◌≡◌, ℕ, zero, suc, [], Some, None, refl, ap, ◌∙◌}
use Rattle.law_runs.specs.Runs.{Next, Went, Ended, Broke, map_next, Trace, Halted, after_event, trace_from, trace, IsUnbroken}
use Rattle.law_runs.specs.Follows.{LeadsTo, FollowsRuns, LocksWith}
use Rattle.law_runs.specs.Simulation.{Silent, Quiet, Skips, Goes, Matches, Meets, Simulates, SimulatesInStep}
use Rattle.law_runs.proofs.Traces.{leads_refl, leads_after_event}

-- The trace x is that of some number of b's steps from a state on, and is unbroken.
abbrev Shows : {E H C T : Type 0} → (T → Next E H C T) → Trace E H → T → Type 0
Shows b x t = (m : ℕ) × IsUnbroken (trace b m t) × (trace b m t ≡ x)

-- Some moment of a's run from a state on, where it is unbroken, is one to which w leads, and w is unbroken.
abbrev Fits : {E H B S : Type 0} → (S → Next E H B S) → Trace E H → S → Type 0
Fits a w s = (n : ℕ) × (IsUnbroken (trace a n s) → IsUnbroken w × LeadsTo w (trace a n s))

-- each moment of a is one of b: silent steps of b, the match, silent steps of a
shows_before : {E H C T : Type 0} (b : T → Next E H C T) (x : Trace E H) (P : T → Type 0) (y : Next E H C T) → Quiet y P → ((t : T) → P t → Shows b x t) → (m : ℕ) × IsUnbroken (trace_from y (trace b m)) × (trace_from y (trace b m) ≡ x)
shows_before b x P (Went None t) q f = f t q
shows_before b x P (Went (Some e) t) q f = absurd q
shows_before b x P (Ended h) q f = absurd q
shows_before b x P (Broke c) q f = absurd q

shows_after : {E H C T : Type 0} (b : T → Next E H C T) (x : Trace E H) (P : Next E H C T → Type 0) (j : ℕ) (t : T) → Goes b j P (b t) → ((t' : T) → P (b t') → Shows b x t') → Shows b x t
shows_after b x P zero t g f = f t g
shows_after b x P (suc j) t g f =
    let r = shows_before b x (λ t1. Goes b j P (b t1)) (b t) g (λ t' g'. shows_after b x P j t' g' f) in (suc r.0, r.1, r.2)

shows_match : {E H B C S T : Type 0} (b : T → Next E H C T) (R : S → T → Type 0) (go : S → Trace E H) (x : Next E H B S) (y : Next E H C T) → Matches R x y → IsUnbroken (trace_from x go) → ((s : S) (t : T) → R s t → IsUnbroken (go s) → Shows b (go s) t) → (m : ℕ) × IsUnbroken (trace_from y (trace b m)) × (trace_from y (trace b m) ≡ trace_from x go)
shows_match b R go (Broke c) y k u f = absurd u
shows_match b R go (Ended h) (Ended g) k u f = (0, tt, ap (λ z. let r : Trace _ _ = record { events = []; status = Halted z } in r) k)
shows_match b R go (Ended h) (Went e t) k u f = absurd k
shows_match b R go (Ended h) (Broke c) k u f = absurd k
shows_match b R go (Went e s) (Ended h) k u f = absurd k
shows_match b R go (Went e s) (Broke c) k u f = absurd k
shows_match b R go (Went e s) (Went e' t) k u f =
    let r = f s t k.1 u in
    (r.0, r.1, ap (after_event e') r.2 ∙ ap (λ d. after_event d (go s)) k.0)

shows_silent : {E H B C S T : Type 0} (b : T → Next E H C T) (t : T) (go : S → Trace E H) (P : S → Type 0) (x : Next E H B S) → Silent x P → IsUnbroken (trace_from x go) → ((s : S) → P s → IsUnbroken (go s) → Shows b (go s) t) → Shows b (trace_from x go) t
shows_silent b t go P (Went None s) k u f = f s k u
shows_silent b t go P (Went (Some e) s) k u f = absurd k
shows_silent b t go P (Ended h) k u f = absurd k
shows_silent b t go P (Broke c) k u f = absurd u

-- each moment of b leads to one of a: the match, silent steps of a, silent steps of b
fits_match : {E H B C S T : Type 0} (R : S → T → Type 0) (a : S → Next E H B S) (there : T → Trace E H) (x : Next E H B S) (y : Next E H C T) → Matches R x y → ((s : S) (t : T) → R s t → Fits a (there t) s) → (n : ℕ) × (IsUnbroken (trace_from x (trace a n)) → IsUnbroken (trace_from y there) × LeadsTo (trace_from y there) (trace_from x (trace a n)))
fits_match R a there (Broke c) y k f = (0, λ u. absurd u)
fits_match R a there (Ended h) (Ended g) k f = (0, λ u. (tt, rw k (leads_refl (record { events = []; status = Halted h }))))
fits_match R a there (Ended h) (Went e t) k f = absurd k
fits_match R a there (Ended h) (Broke c) k f = absurd k
fits_match R a there (Went e s) (Ended h) k f = absurd k
fits_match R a there (Went e s) (Broke c) k f = absurd k
fits_match R a there (Went e s) (Went e' t) k f =
    let r = f s t k.1 in
    (r.0, λ u. let p = r.1 u in (p.0, rw k.0 (leads_after_event e (there t) (trace a r.0 s) p.1)))

fits_silent : {E H B S : Type 0} (a : S → Next E H B S) (w : Trace E H) (P : S → Type 0) (x : Next E H B S) → Silent x P → ((s : S) → P s → Fits a w s) → (n : ℕ) × (IsUnbroken (trace_from x (trace a n)) → IsUnbroken w × LeadsTo w (trace_from x (trace a n)))
fits_silent a w P (Went None s) k f = f s k
fits_silent a w P (Went (Some e) s) k f = absurd k
fits_silent a w P (Ended h) k f = absurd k
fits_silent a w P (Broke c) k f = (0, λ u. absurd u)

fits_after : {E H B S : Type 0} (a : S → Next E H B S) (w : Trace E H) (P : Next E H B S → Type 0) (i : ℕ) (s : S) → Skips a i P (a s) → ((s' : S) → P (a s') → Fits a w s') → Fits a w s
fits_after a w P zero s k f = f s k
fits_after a w P (suc i) s k f =
    let r = fits_silent a w (λ s1. Skips a i P (a s1)) (a s) k (λ s1 k1. fits_after a w P i s1 k1 f) in (suc r.0, r.1)

fits_quiet : {E H B C S T : Type 0} (a : S → Next E H B S) (s : S) (there : T → Trace E H) (P : T → Type 0) (y : Next E H C T) → Quiet y P → ((t : T) → P t → Fits a (there t) s) → Fits a (trace_from y there) s
fits_quiet a s there P (Went None t) k f = f t k
fits_quiet a s there P (Went (Some e) t) k f = absurd k
fits_quiet a s there P (Ended h) k f = absurd k
fits_quiet a s there P (Broke c) k f = absurd k

module _ {E H B C S T : Type 0} (a : S → Next E H B S) (b : T → Next E H C T) (R : S → T → Type 0) (sim : Simulates a b R) where
  -- what is left behind a's silent steps: those of b, and the match
  abbrev After : T → Next E H B S → Type 0
  After t x' = (j : ℕ) × Goes b j (Matches R x') (b t)

  kept_from : (n i : ℕ) (s : S) (t : T) → Skips a i (After t) (a s) → IsUnbroken (trace a n s) → Shows b (trace a n s) t
  kept_from zero i s t k u = (0, tt, refl)
  kept_from (suc n) zero s t k u =
      shows_after b (trace a (suc n) s) (Matches R (a s)) k.0 t k.1
      (λ t' h. let r = shows_match b R (trace a n) (a s) (b t') h u (λ s2 t2 r2 u2. let x = sim s2 t2 r2 in kept_from n x.0 s2 t2 x.1 u2) in (suc r.0, r.1, r.2))
  kept_from (suc n) (suc i) s t k u =
      shows_silent b t (trace a n) (λ s1. Skips a i (After t) (a s1)) (a s) k u (λ s1 k1 u1. kept_from n i s1 t k1 u1)

  only_from : (m j : ℕ) (s : S) (t : T) → Goes b j (Matches R (a s)) (b t) → Fits a (trace b m t) s
  only_from zero j s t k = (0, λ u. (tt, leads_refl (trace b 0 t)))
  only_from (suc m) zero s t k =
      let r = fits_match R a (trace b m) (a s) (b t) k (λ s2 t2 r2. let x = sim s2 t2 r2 in fits_after a (trace b m t2) (After t2) x.0 s2 x.1 (λ s' h. only_from m h.0 s' t2 h.1)) in
      (suc r.0, r.1)
  only_from (suc m) (suc j) s t k =
      fits_quiet a s (trace b m) (λ t1. Goes b j (Matches R (a s)) (b t1)) (b t) k (λ t1 k1. only_from m j s t1 k1)

  -- Related states: the run of b follows that of a.
  pub follows_by : (s : S) (t : T) → R s t → FollowsRuns a s b t
  follows_by s t r =
      let x = sim s t r in record {
        kept = λ n u. kept_from n x.0 s t x.1 u;
        only = λ m. fits_after a (trace b m t) (After t) x.0 s x.1 (λ s' h. only_from m h.0 s' t h.1);
      }

module _ {E H B C S T : Type 0} (a : S → Next E H B S) (b : T → Next E H C T) (R : S → T → Type 0) (sim : SimulatesInStep a b R) where
  locks_match : (n : ℕ) (x : Next E H B S) (y : Next E H C T) → Matches R x y → ((s : S) (t : T) → R s t → IsUnbroken (trace a n s) → IsUnbroken (trace b n t) × (trace b n t ≡ trace a n s)) → IsUnbroken (trace_from x (trace a n)) → IsUnbroken (trace_from y (trace b n)) × (trace_from y (trace b n) ≡ trace_from x (trace a n))
  locks_match n (Broke c) y k f u = absurd u
  locks_match n (Ended h) (Ended g) k f u = (tt, ap (λ z. let r : Trace _ _ = record { events = []; status = Halted z } in r) k)
  locks_match n (Ended h) (Went e t) k f u = absurd k
  locks_match n (Ended h) (Broke c) k f u = absurd k
  locks_match n (Went e s) (Ended h) k f u = absurd k
  locks_match n (Went e s) (Broke c) k f u = absurd k
  locks_match n (Went e s) (Went e' t) k f u =
      let r = f s t k.1 u in
      (r.0, ap (after_event e') r.1 ∙ ap (λ d. after_event d (trace a n s)) k.0)

  locks_from : (n : ℕ) (s : S) (t : T) → R s t → IsUnbroken (trace a n s) → IsUnbroken (trace b n t) × (trace b n t ≡ trace a n s)
  locks_from zero s t r u = (tt, refl)
  locks_from (suc n) s t r u = locks_match n (a s) (b t) (sim s t r) (locks_from n) u

  -- Related states: the two runs lock.
  pub locks_by : (s : S) (t : T) → R s t → LocksWith a s b t
  locks_by s t r = λ n u. locks_from n s t r u

-- How a meeting is shown: a match now, a silent step of a first, a silent step of b first, a break of a.
module _ {E H B C S T : Type 0} (a : S → Next E H B S) (b : T → Next E H C T) (R : S → T → Type 0) where
  pub meets_now : (x : Next E H B S) (y : Next E H C T) → Matches R x y → Meets a b R x y
  meets_now x y k = (0, (0, k))

  pub meets_skip : (s : S) (y : Next E H C T) → Meets a b R (a s) y → Meets a b R (Went None s) y
  meets_skip s y k = (suc k.0, k.1)

  waits : (i : ℕ) (t : T) (x : Next E H B S) → Skips a i (λ x'. (j : ℕ) × Goes b j (Matches R x') (b t)) x → Skips a i (λ x'. (j : ℕ) × Goes b j (Matches R x') (Went None t)) x
  waits zero t x k = (suc k.0, k.1)
  waits (suc i) t (Went None s) k = waits i t (a s) k
  waits (suc i) t (Went (Some e) s) k = k
  waits (suc i) t (Ended h) k = k
  waits (suc i) t (Broke c) k = k

  pub meets_wait : (x : Next E H B S) (t : T) → Meets a b R x (b t) → Meets a b R x (Went None t)
  meets_wait x t k = (k.0, waits k.0 t x k.1)

  pub meets_broke : (c : B) (y : Next E H C T) → Meets a b R (Broke c) y
  meets_broke c y = (0, (0, tt))

-- A match by a relation is one by a wider relation.
pub matches_map : {E H B C S T : Type 0} (R Q : S → T → Type 0) (x : Next E H B S) (y : Next E H C T) → ((s : S) (t : T) → R s t → Q s t) → Matches R x y → Matches Q x y
matches_map R Q (Went e s) (Went e' t) h m = (m.0, h s t m.1)
matches_map R Q (Went e s) (Ended g) h m = m
matches_map R Q (Went e s) (Broke c) h m = m
matches_map R Q (Ended g) (Went e t) h m = m
matches_map R Q (Ended g) (Ended g') h m = m
matches_map R Q (Ended g) (Broke c) h m = m
matches_map R Q (Broke c) y h m = tt

-- A simulation in lock step is a simulation.
pub steps_simulate : {E H B C S T : Type 0} (a : S → Next E H B S) (b : T → Next E H C T) (R : S → T → Type 0) → SimulatesInStep a b R → Simulates a b R
steps_simulate a b R sim s t r = meets_now a b R (a s) (b t) (sim s t r)

-- Results that match still do with their states carried on, as a row's result becomes a machine's.
pub matches_map_next : {E H B C B' C' S T S' T' : Type 0} (R : S → T → Type 0) (Q : S' → T' → Type 0) (f : S → S') (g : T → T') (i : B → B') (j : C → C') (x : Next E H B S) (y : Next E H C T) → ((s : S) (t : T) → R s t → Q (f s) (g t)) → Matches R x y → Matches Q (map_next f i x) (map_next g j y)
matches_map_next R Q f g i j (Went e s) (Went e' t) h m = (m.0, h s t m.1)
matches_map_next R Q f g i j (Went e s) (Ended k) h m = m
matches_map_next R Q f g i j (Went e s) (Broke c) h m = m
matches_map_next R Q f g i j (Ended k) (Went e t) h m = m
matches_map_next R Q f g i j (Ended k) (Ended k') h m = m
matches_map_next R Q f g i j (Ended k) (Broke c) h m = m
matches_map_next R Q f g i j (Broke c) y h m = tt

-- A machine and its image under a map of states lock.
pub locks_by_map : {E H B C S T : Type 0} (a : S → Next E H B S) (b : T → Next E H C T) (f : S → T) (g : B → C) → ((s : S) → b (f s) ≡ map_next f g (a s)) → (s : S) → LocksWith a s b (f s)
locks_by_map {E} {H} {B} {C} {S} {T} a b f g h s = locks_by a b (λ s t. t ≡ f s) (λ s t r. rw (r, h s) (image (a s))) s (f s) refl
  where
    image : (x : Next E H B S) → Matches (λ s t. t ≡ f s) x (map_next f g x)
    image (Went e s) = (refl, refl)
    image (Ended k) = refl
    image (Broke c) = tt
