use Rattle.std.proofs.Common.{take}
use Rattle.std.specs.List.{All}
use Rattle.sq_outline.specs.WindowsMade.{IsWhole}
use Rattle.sq_outline.proofs.windows.occurrences.are_whole.Given as goal

abbrev pub invariant-loop-site : goal.invariant-loop-site
invariant-loop-site l = All (IsWhole l.graph.graph l.n) (take l.site-index l.sites)
