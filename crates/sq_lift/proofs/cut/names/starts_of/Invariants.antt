use Rattle.std.proofs.Common.{◌≡◌, ◌++◌, ◌+◌, ◌*◌, ◌≤◌, length, drop}
use Rattle.sq_lift.specs.Flags.{is_flagged}
use Rattle.sq_lift.specs.Cuts.{kept_by, starts}
use Rattle.sq_lift.proofs.cut.names.starts_of.Given as goal

abbrev pub invariant-loop-place : goal.invariant-loop-place
invariant-loop-place l = record {
  starts : l.list.items ++ starts (kept_by l.kinds.reached.now l.kinds.inside.now) (is_flagged l.kinds.leaders.now) (l.lo + 4 * l.place) (drop l.place l.text.words) ≡ starts (kept_by l.kinds.reached.now l.kinds.inside.now) (is_flagged l.kinds.leaders.now) l.text.lo l.text.words;
  count : length l.list.items ≤ l.place;
}
