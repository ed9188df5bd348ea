use Rattle.std.proofs.Common.{◌≡◌, ◌++◌, map, take, drop}
use Rattle.sq_graph.specs.Renames.{recalled_item}
use Rattle.sq_graph.proofs.rename.recall_items.Given as goal

abbrev pub invariant-loop-item : goal.invariant-loop-item
invariant-loop-item g l =
    l.item-items ≡ map (recalled_item (g.R.Rename.name_of l.by)) (take l.item-index l.fn.items.items) ++ drop l.item-index l.fn.items.items
