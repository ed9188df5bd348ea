use Rattle.std.proofs.Common.{◌≡◌, ◌++◌, take}
use Rattle.sq_graph.specs.Fates.{settled_items}
use Rattle.sq_graph.proofs.fates.settle_items.Given as goal

abbrev pub invariant-loop-item : goal.invariant-loop-item
invariant-loop-item l = l.items.items ≡ l.fn.items.items ++ settled_items l.graph.graph l.fates (take l.item-index l.from)
