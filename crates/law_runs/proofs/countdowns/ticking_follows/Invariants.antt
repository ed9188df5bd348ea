use Rattle.std.proofs.Common.{ℕ}
use Rattle.law_runs.specs.Countdowns.{counting, Tick, ticking, AtRest}
use Rattle.law_runs.proofs.countdowns.ticking_follows.Given as goal

abbrev pub ghosts-follows_by_simulation : goal.ghosts-follows_by_simulation
ghosts-follows_by_simulation a = record {
  Event = ℕ;
  Halt = ℕ;
  FirstBreak = ⊥;
  FirstState = ℕ;
  SecondBreak = ⊥;
  SecondState = Tick;
  first = counting;
  second = ticking;
  related = AtRest;
}
