use Rattle.std.proofs.Common.{◌≡◌, ◌++◌, Some, map, drop}
use Rattle.sq_finger.specs.Classes.{block_kind}
use Rattle.sq_finger.proofs.classing.kinds.Given as goal

abbrev pub invariant-loop-name : goal.invariant-loop-name
invariant-loop-name l = l.kinds.items ++ map (λ name. Some (block_kind l.graph.graph name)) (drop l.name-index l.names) ≡ map (λ name. Some (block_kind l.graph.graph name)) l.names
