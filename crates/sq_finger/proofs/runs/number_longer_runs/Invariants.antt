use Rattle.std.proofs.Common.{◌≡◌, ℕ, ◌+◌, ◌<◌, length}
use Rattle.std.specs.Option.{option_zip}
use Rattle.sq_finger.specs.Numbers.{member_at}
use Rattle.sq_finger.proofs.runs.number_longer_runs.Given as goal

abbrev pub invariant-loop-i : goal.invariant-loop-i
invariant-loop-i l = record {
  many : length l.pairs.items ≡ l.i;
  each : (k : ℕ) → k < l.i → member_at l.pairs.items k ≡ option_zip (member_at l.firsts k) (member_at l.runs (k + 1));
}
