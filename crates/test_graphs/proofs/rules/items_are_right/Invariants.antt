use Rattle.std.proofs.Common.{take}
use Rattle.std.specs.List.{All}
use Rattle.test_graphs.specs.Standing.{ItemIsRight}
use Rattle.test_graphs.proofs.rules.items_are_right.Given as goal

abbrev pub invariant-loop-item : goal.invariant-loop-item
invariant-loop-item l = All (ItemIsRight l.blocks l.procedures) (take l.item-index l.items)
