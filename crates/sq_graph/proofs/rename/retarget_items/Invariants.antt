use Rattle.std.proofs.Common.{◌≡◌, ◌++◌, map, take, drop}
use Rattle.sq_graph.specs.Renames.{retargeted_item}
use Rattle.sq_graph.proofs.rename.retarget_items.Given as goal

abbrev pub invariant-loop-item : goal.invariant-loop-item
invariant-loop-item g l =
    l.item-items ≡ map (retargeted_item (g.R.Rename.name_of l.by)) (take l.item-index l.fn.items.items) ++ drop l.item-index l.fn.items.items
