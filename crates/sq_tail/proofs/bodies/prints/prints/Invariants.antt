use Rattle.std.proofs.Common.{◌≡◌, map, take}
use Rattle.sq_tail.specs.BodiesPrints.{print_of}
use Rattle.sq_tail.proofs.bodies.prints.prints.Given as goal

abbrev pub invariant-loop-name : goal.invariant-loop-name
invariant-loop-name l = l.prints.items ≡ map (print_of l.live l.graph.graph) (take l.name-index l.names)
