use Rattle.std.proofs.Common.{◌≡◌, ◌++◌, drop}
use Rattle.sq_graph.specs.Walks.{link_names}
use Rattle.sq_live.proofs.exits.push_return_slots.Given as goal

abbrev pub invariant-loop-name : goal.invariant-loop-name
invariant-loop-name l = l.targets.items ++ link_names (drop l.name-index l.g.graph.blocks) ≡ l.initial.targets.items ++ link_names l.g.graph.blocks
