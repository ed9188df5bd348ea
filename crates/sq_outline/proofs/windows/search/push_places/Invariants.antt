use Rattle.std.proofs.Common.{◌≡◌, ◌++◌}
use Rattle.sq_outline.proofs.WindowsListed.{listed_from}
use Rattle.sq_outline.proofs.windows.search.push_places.Given as goal

abbrev pub invariant-loop-at : goal.invariant-loop-at
invariant-loop-at l =
    l.places.items ++ listed_from l.window l.items l.block l.at ≡ l.initial.places.items ++ listed_from l.window l.items l.block 0
