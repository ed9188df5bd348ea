use Rattle.std.proofs.Common.{◌≡◌, ◌+◌, ◌≤◌, [], length}
use Rattle.sq_cert.specs.Pieces.{pieces}
use Rattle.sq_cert.specs.Readings.{reading_behind}
use Rattle.sq_cert.proofs.read.read_steps.Given as goal

abbrev pub invariant-loop-behind : goal.invariant-loop-behind
invariant-loop-behind l = record {
  said : reading_behind l.cert (pieces 10 l.rest) ≡ reading_behind [] (pieces 10 l.lines);
  number : l.number ≡ length l.cert + 2;
  few : l.number + length l.rest ≤ length l.lines + 2;
}

abbrev pub decreases-loop-behind : goal.decreases-loop-behind
decreases-loop-behind l = length l.rest
