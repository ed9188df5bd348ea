use Rattle.std.proofs.Common.{ℕ, ◌<◌}
use Rattle.sq_lookup.specs.Tables.{number_at}
use Rattle.sq_tail.specs.Numbers.{IsMeeting}
use Rattle.sq_tail.proofs.search.meeting.Given as goal

abbrev pub invariant-loop-j : goal.invariant-loop-j
invariant-loop-j l = (other place : ℕ) → place < l.j → ¬ IsMeeting l.numbers (number_at l.places) other place
