use Rattle.std.proofs.Common.{◌≡◌, ◌++◌, drop}
use Rattle.sq_graph.specs.Uses.{items_uses}
use Rattle.sq_fold.proofs.referring.push_items.Given as goal

abbrev pub invariant-loop-item : goal.invariant-loop-item
invariant-loop-item l = l.names.items ++ items_uses (drop l.item-index l.items) ≡ l.initial.names.items ++ items_uses l.items
