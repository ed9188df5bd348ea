-- What the little machines show, and which follow which.
use Rattle.std.proofs.Common.{◌≡◌, ℕ, nat_eq, zero, suc, List, [], ◌∷◌, Some, None, refl, sym, subst}
use Rattle.std.proofs.lemmas.Bool.{cond_both}
use Rattle.law_runs.specs.Runs.{Went, Ended, Broke, Running, Halted, Broken, Trace, trace, first_break, HasHalted}
use Rattle.law_runs.specs.Follows.{FollowsRuns, SameRuns}
use Rattle.law_runs.specs.Simulation.{Matches, Meets, Simulates, SimulatesInStep}
use Rattle.law_runs.specs.Countdowns.{counting, Tick, Rest, Ready, ticking, cracking, wary, idling, AtRest, RestsAt}
use Rattle.law_runs.proofs.Traces.{never_breaks}
use Rattle.law_runs.proofs.Follow.{locks_refl, assemble}
use Rattle.law_runs.proofs.Simulate.{meets_now, meets_skip, meets_wait, meets_broke, follows_by, locks_by}

-- traces, by computing
counting_four : trace counting 4 3 ≡ record { events = 2 ∷ 1 ∷ 0 ∷ []; status = Halted 0 }
counting_four = refl

ticking_five : trace ticking 5 (Rest 3) ≡ record { events = 2 ∷ 1 ∷ []; status = Running }
ticking_five = refl

cracking_six : trace cracking 6 (Ready 2) ≡ record { events = 1 ∷ 0 ∷ []; status = Broken }
cracking_six = refl

cracking_break : first_break cracking 6 (Ready 2) ≡ Some 7
cracking_break = refl

cracking_unbroken : first_break cracking 4 (Ready 2) ≡ None
cracking_unbroken = refl

-- the second skips
pub ticking_meets : Simulates counting ticking AtRest
ticking_meets zero (Rest m) r = meets_wait counting ticking AtRest (Ended 0) (Ready m) (rw r (meets_now counting ticking AtRest (Ended 0) (Ended 0) refl))
ticking_meets (suc n) (Rest m) r =
    meets_wait counting ticking AtRest (Went (Some n) n) (Ready m) (rw r (meets_now counting ticking AtRest (Went (Some n) n) (Went (Some n) (Rest n)) (refl, refl)))
ticking_meets n (Ready m) r = absurd r

-- the first skips, and breaks at its last number
pub counting_meets : Simulates cracking counting RestsAt
counting_meets (Rest zero) n r = meets_skip cracking counting RestsAt (Ready 0) (counting n) (meets_broke cracking counting RestsAt 7 (counting n))
counting_meets (Rest (suc m)) n r =
    meets_skip cracking counting RestsAt (Ready (suc m)) (counting n) (subst (λ k. Meets cracking counting RestsAt (Went (Some m) (Rest m)) (counting k)) r (meets_now cracking counting RestsAt (Went (Some m) (Rest m)) (Went (Some m) m) (refl, refl)))
counting_meets (Ready m) n r = absurd r

-- in lock step, until the first breaks
pub wary_matches : SimulatesInStep wary counting (λ n m. m ≡ n)
wary_matches zero m e = rw e refl
wary_matches (suc n) m e =
    rw e (cond_both (nat_eq n 13) (Broke n) (Went (Some n) n) (λ x. Matches {C = ⊥} (λ n m. m ≡ n) x (Went (Some n) n)) (λ b. tt) (λ b. (refl, refl)))

-- The watch is wary, and both graphs' runs count or tick.
pub ticking_same : (n : ℕ) → SameRuns wary n counting n ticking (Rest n)
ticking_same n =
    let sees = locks_by wary counting (λ n m. m ≡ n) wary_matches n n refl in
    let follows = follows_by counting ticking AtRest ticking_meets n (Rest n) refl in
    assemble wary n counting n counting n ticking (Rest n) ticking (Rest n) sees sees follows (locks_refl ticking (Rest n))

-- a run that goes on silently never ends
idling_runs : (m : ℕ) → trace idling m tt ≡ record { events = []; status = Running }
idling_runs zero = refl
idling_runs (suc m) = idling_runs m

counting_ends : (n : ℕ) → HasHalted (trace counting (suc n) n)
counting_ends zero = tt
counting_ends (suc n) = counting_ends n

-- no silent loop follows a run that ends, by the first part of following
pub idling_never_ends : (n : ℕ) → FollowsRuns counting n idling tt → ⊥
idling_never_ends n f =
    let x = f.kept (suc n) (never_breaks counting (suc n) n) in
    subst HasHalted (idling_runs x.0) (subst HasHalted (sym x.2) (counting_ends n))

-- no run that ends follows a silent loop, by the second
pub counting_idles_not : (n : ℕ) → FollowsRuns idling tt counting n → ⊥
counting_idles_not n f =
    let x = f.only (suc n) in
    let l = (x.1 (never_breaks idling x.0 tt)).1 in
    subst HasHalted (idling_runs x.0) (subst HasHalted (sym (l.halted (counting_ends n))) (counting_ends n))

-- no run follows one with another first event
abbrev FirstIs : ℕ → List ℕ → Type 0
FirstIs n [] = ⊥
FirstIs n (e ∷ es) = e ≡ n

counts_other : (n m k : ℕ) → (n ≡ m → ⊥) → FirstIs n (trace counting k (suc m)).events → ⊥
counts_other n m zero ne h = h
counts_other n m (suc k) ne h = ne (sym h)

pub counting_from_other : (n m : ℕ) → (n ≡ m → ⊥) → FollowsRuns counting (suc n) counting (suc m) → ⊥
counting_from_other n m ne f =
    let x = f.kept 1 tt in
    counts_other n m x.0 ne (subst (λ (t : Trace ℕ ℕ). FirstIs n t.events) (sym x.2) refl)

-- after a break anything follows
pub all_follow_break : (t : Tick) → FollowsRuns cracking (Ready 0) ticking t
all_follow_break t = follows_by cracking ticking (λ s t. s ≡ Ready 0) (λ s t e. rw e (meets_broke cracking ticking (λ s t. s ≡ Ready 0) 7 (ticking t))) (Ready 0) t refl
