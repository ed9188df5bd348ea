use Rattle.std.specs.List.{All}
use Rattle.sq_outline.specs.WindowsProposed.{IsFoundWindow, IsPlacedIn}
use Rattle.sq_outline.proofs.windows.proposals.push_windows.Given as goal

abbrev pub invariant-loop-number : goal.invariant-loop-number
invariant-loop-number l = record {
  windows : All (IsFoundWindow l.graph.graph) l.look.windows.items;
  placed : All (IsPlacedIn l.graph.graph l.look.places.items) l.look.windows.items;
}
