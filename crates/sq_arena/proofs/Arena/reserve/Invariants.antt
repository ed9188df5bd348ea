use Rattle.std.proofs.Common.{◌≡◌, ◌≤◌, max}
use Rattle.sq_arena.proofs.Arena.reserve.Given as goal

abbrev pub invariant-loop : goal.invariant-loop
invariant-loop g l = record {
  entries : l.self.entries ≡ l.fn.self.entries;
  spare : l.self.spare ≡ l.counter;
  from : l.fn.self.spare ≤ l.counter;
  upto : l.counter ≤ max l.fn.self.spare l.n;
}
