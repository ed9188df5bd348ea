use Rattle.std.proofs.Common.{◌-◌}
use Rattle.std.specs.List.{All}
use Rattle.sq_finger.specs.Runs.{AreRunNumbers}
use Rattle.sq_outline.specs.WindowsProposed.{IsFoundWindow, IsPlacedIn}
use Rattle.sq_outline.proofs.windows.proposals.found_windows.Given as goal

abbrev pub invariant-loop-n : goal.invariant-loop-n
invariant-loop-n l = record {
  runs : AreRunNumbers (l.n - 1) l.items.items l.numbers.items;
  found : All (IsFoundWindow l.graph.graph) l.look.windows.items;
  placed : All (IsPlacedIn l.graph.graph l.look.places.items) l.look.windows.items;
}
