use Rattle.std.proofs.Common.{◌≡◌, ◌++◌, drop}
use Rattle.sq_graph.specs.Parts.{names_of}
use Rattle.sq_outline.specs.WindowsSearch.{standing, standing_among}
use Rattle.sq_outline.proofs.windows.search.standing.Given as goal

abbrev pub invariant-loop-other : goal.invariant-loop-other
invariant-loop-other l =
    l.places.items ++ standing_among l.graph.graph l.window (drop l.other-index (names_of l.graph.graph)) ≡ standing l.graph.graph l.window
