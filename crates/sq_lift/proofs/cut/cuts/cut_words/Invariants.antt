use Rattle.std.proofs.Common.{◌+◌, ◌*◌, ◌≤◌, length, drop}
use Rattle.sq_lift.specs.Flags.{is_flagged}
use Rattle.law_program.specs.Lifted.{cut}
use Rattle.sq_lift.specs.Cuts.{kept_by, Shows, position_by}
use Rattle.sq_lift.proofs.cut.cuts.cut_words.Given as goal

-- the words behind are cut
abbrev pub invariant-loop-place : goal.invariant-loop-place
invariant-loop-place l = record {
  shows : Shows (position_by l.positions) (cut (kept_by l.kinds.reached.now l.kinds.inside.now) (is_flagged l.kinds.leaders.now) l.procedures l.text (l.lo + 4 * l.place) (drop l.place l.words)) l.cut;
  bound : l.cut.count + l.place ≤ length l.words;
}
