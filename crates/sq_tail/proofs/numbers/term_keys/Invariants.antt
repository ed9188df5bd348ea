use Rattle.std.proofs.Common.{◌≡◌, ◌++◌, map, drop}
use Rattle.sq_tail.specs.Resolved.{block_key}
use Rattle.sq_tail.proofs.numbers.term_keys.Given as goal

abbrev pub invariant-loop-name : goal.invariant-loop-name
invariant-loop-name l = l.keys.items ++ map (block_key l.graph.graph) (drop l.name-index l.names) ≡ map (block_key l.graph.graph) l.names
