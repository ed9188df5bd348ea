-- Following is reflexive and transitive, lock step is following, and what makes the runs of two files the same.
use Rattle.std.proofs.Common.{refl, sym, ◌∙◌, subst}
use Rattle.law_runs.specs.Runs.{Next, trace}
use Rattle.law_runs.specs.Follows.{LeadsTo, FollowsRuns, LocksWith, SameRuns}
use Rattle.law_runs.proofs.Traces.{leads_refl, leads_trans}

pub follows_refl : {E H B S : Type 0} (a : S → Next E H B S) (s : S) → FollowsRuns a s a s
follows_refl a s = record {
  kept = λ n u. (n, u, refl);
  only = λ m. (m, λ u. (u, leads_refl (trace a m s)));
}

pub follows_trans : {E H B C D S T U : Type 0} (a : S → Next E H B S) (s : S) (b : T → Next E H C T) (t : T) (c : U → Next E H D U) (u : U) → FollowsRuns a s b t → FollowsRuns b t c u → FollowsRuns a s c u
follows_trans a s b t c u f g = record {
  kept = λ n h. let x = f.kept n h in let y = g.kept x.0 x.1 in (y.0, y.1, y.2 ∙ x.2);
  only = λ m.
      let y = g.only m in
      let x = f.only y.0 in
      (x.0, λ h. let p = x.1 h in let q = y.1 p.0 in (q.0, leads_trans (trace c m u) (trace b y.0 t) (trace a x.0 s) q.1 p.1));
}

-- Lock step, run by run.
pub locks_refl : {E H B S : Type 0} (a : S → Next E H B S) (s : S) → LocksWith a s a s
locks_refl a s = λ n u. (u, refl)

pub locks_trans : {E H B C D S T U : Type 0} (a : S → Next E H B S) (s : S) (b : T → Next E H C T) (t : T) (c : U → Next E H D U) (u : U) → LocksWith a s b t → LocksWith b t c u → LocksWith a s c u
locks_trans a s b t c u f g = λ n h. let x = f n h in let y = g n x.0 in (y.0, y.1 ∙ x.1)

pub locks_follow : {E H B C S T : Type 0} (a : S → Next E H B S) (s : S) (b : T → Next E H C T) (t : T) → LocksWith a s b t → FollowsRuns a s b t
locks_follow a s b t f = record {
  kept = λ n u. let x = f n u in (n, x.0, x.1);
  only = λ m. (m, λ u. let x = f m u in (x.0, subst (LeadsTo (trace b m t)) x.1 (leads_refl (trace b m t))));
}

-- The watch sees what a does, and b follows the watch: the runs of a and b are the same under the watch.
pub same_from : {E H B S T U : Type 0} (watch : U → Next E H B U) (u : U) (a : S → Next E H ⊥ S) (s : S) (b : T → Next E H ⊥ T) (t : T) → LocksWith watch u a s → FollowsRuns watch u b t → SameRuns watch u a s b t
same_from watch u a s b t w f = record {
  kept = λ n h. let x = f.kept n h in (x.0, x.2 ∙ sym (w n h).1);
  only = λ m. let x = f.only m in (x.0, λ h. subst (LeadsTo (trace b m t)) (sym (w x.0 h).1) (x.1 h).1);
}

-- A run is the same as itself, under each watch that sees it.
pub same_refl : {E H B S U : Type 0} (watch : U → Next E H B U) (u : U) (a : S → Next E H ⊥ S) (s : S) → LocksWith watch u a s → SameRuns watch u a s a s
same_refl watch u a s w = same_from watch u a s a s w (locks_follow watch u a s w)

-- The watch sees a and locks with the run of a graph g, that of a graph h follows it, and h's locks with b.
pub assemble : {E H B C D S T U V W : Type 0} (watch : U → Next E H B U) (u : U) (a : S → Next E H ⊥ S) (s : S) (g : V → Next E H C V) (v : V) (h : W → Next E H D W) (w : W) (b : T → Next E H ⊥ T) (t : T) → LocksWith watch u a s → LocksWith watch u g v → FollowsRuns g v h w → LocksWith h w b t → SameRuns watch u a s b t
assemble watch u a s g v h w b t sees lifted follows written =
    same_from watch u a s b t sees
    (follows_trans watch u g v b t (locks_follow watch u g v lifted) (follows_trans g v h w b t follows (locks_follow h w b t written)))
