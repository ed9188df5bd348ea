use Rattle.std.proofs.Common.{◌≡◌, ◌++◌, take}
use Rattle.std.specs.List.{flat_map}
use Rattle.sq_graph.specs.Walks.{lower_names}
use Rattle.sq_live.proofs.exits.push_lower_names.Given as goal

abbrev pub invariant-loop-item : goal.invariant-loop-item
invariant-loop-item l = l.targets.items ≡ l.initial.targets.items ++ flat_map lower_names (take l.item-index l.items)
