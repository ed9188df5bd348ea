use Rattle.std.proofs.Common.{◌≡◌, ◌++◌, take}
use Rattle.std.specs.List.{flat_map}
use Rattle.sq_graph.specs.Walks.{lower_names}
use Rattle.sq_live.proofs.exits.push_lower_names_of_blocks.Given as goal

abbrev pub invariant-loop-name : goal.invariant-loop-name
invariant-loop-name l = l.targets.items ≡ l.initial.targets.items ++ flat_map (λ block. flat_map lower_names block.items) (take l.name-index l.g.graph.blocks)
