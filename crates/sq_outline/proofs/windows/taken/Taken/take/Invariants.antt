use Rattle.std.proofs.Common.{◌≡◌}
use Rattle.sq_outline.proofs.WindowsTakenOf.{gone_to}
use Rattle.sq_outline.proofs.windows.taken.Taken.take.Given as goal

abbrev pub invariant-loop-i : goal.invariant-loop-i
invariant-loop-i l = record {
  fates : l.self.fates.items ≡ gone_to l.initial.self.fates.items l.first l.i;
  ahead : l.self.ahead ≡ l.initial.self.ahead;
}
