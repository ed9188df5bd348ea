use Rattle.std.proofs.Common.{◌≤◌}
use Rattle.sq_machine.proofs.bare_ram.next_start.Given as goal

abbrev pub invariant-loop-piece : goal.invariant-loop-piece
invariant-loop-piece l = l.next ≤ l.end
