use Rattle.std.proofs.Common.{ℕ, ◌<◌, ◌-◌, map, slice_index}
use Rattle.test_graphs.proofs.rules.ascend.Given as goal

abbrev pub invariant-loop-place : goal.invariant-loop-place
invariant-loop-place l = (m : ℕ) → m < l.place → 0 < m → slice_index (map (λ w. w.at) l.words) (m - 1) < slice_index (map (λ w. w.at) l.words) m
