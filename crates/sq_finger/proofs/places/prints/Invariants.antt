use Rattle.std.proofs.Common.{◌≡◌, ◌++◌, Some, map, drop}
use Rattle.sq_finger.specs.Windows.{window_print}
use Rattle.sq_finger.proofs.places.prints.Given as goal

abbrev pub invariant-loop-place : goal.invariant-loop-place
invariant-loop-place l = l.prints.items ++ map (λ place. Some (window_print l.graph.graph l.n place)) (drop l.place-index l.places) ≡ map (λ place. Some (window_print l.graph.graph l.n place)) l.places
