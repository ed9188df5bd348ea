use Rattle.std.proofs.Common.{◌≡◌, ◌++◌, drop}
use Rattle.sq_finger.specs.Windows.{places_in, places_of}
use Rattle.sq_finger.proofs.places.places.Given as goal

abbrev pub invariant-loop-name : goal.invariant-loop-name
invariant-loop-name l = l.places.items ++ places_in l.graph.graph l.n (drop l.name-index l.names) ≡ places_of l.graph.graph l.n
