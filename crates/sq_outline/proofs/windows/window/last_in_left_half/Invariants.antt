use Rattle.sq_outline.proofs.WindowsLast.{AreKnown}
use Rattle.sq_outline.proofs.windows.window.last_in_left_half.Given as goal

abbrev pub invariant-loop-at : goal.invariant-loop-at
invariant-loop-at l = AreKnown l.window l.items l.first l.at l.end l.last
