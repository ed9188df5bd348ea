use Rattle.std.proofs.Common.{ℕ}
use Rattle.law_runs.specs.Countdowns.{counting, Tick, cracking, RestsAt}
use Rattle.law_runs.proofs.countdowns.counting_follows.Given as goal

abbrev pub ghosts-follows_by_simulation : goal.ghosts-follows_by_simulation
ghosts-follows_by_simulation a = record {
  Event = ℕ;
  Halt = ℕ;
  FirstBreak = ℕ;
  FirstState = Tick;
  SecondBreak = ⊥;
  SecondState = ℕ;
  first = cracking;
  second = counting;
  related = RestsAt;
}
