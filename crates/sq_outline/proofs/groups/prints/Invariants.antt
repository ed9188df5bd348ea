use Rattle.std.proofs.Common.{◌≡◌, ◌++◌, Some, map, drop}
use Rattle.sq_outline.specs.Prints.{print_of}
use Rattle.sq_outline.proofs.groups.prints.Given as goal

abbrev pub invariant-loop-name : goal.invariant-loop-name
invariant-loop-name l = l.prints.items ++ map (λ name. Some (print_of l.graph.graph name)) (drop l.name-index l.names) ≡ map (λ name. Some (print_of l.graph.graph name)) l.names
