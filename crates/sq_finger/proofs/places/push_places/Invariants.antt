use Rattle.std.proofs.Common.{◌≡◌, ◌++◌, drop}
use Rattle.sq_finger.specs.Windows.{places_from}
use Rattle.sq_finger.proofs.places.push_places.Given as goal

abbrev pub invariant-loop-at : goal.invariant-loop-at
invariant-loop-at l = l.places.items ++ places_from l.n l.block l.at (drop l.at l.items) ≡ l.initial.places.items ++ places_from l.n l.block 0 l.items
