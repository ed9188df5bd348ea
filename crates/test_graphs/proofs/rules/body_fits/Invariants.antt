use Rattle.std.proofs.Common.{take}
use Rattle.std.specs.List.{All}
use Rattle.test_graphs.specs.Standing.{IsFree}
use Rattle.test_graphs.proofs.rules.body_fits.Given as goal

abbrev pub invariant-loop-item : goal.invariant-loop-item
invariant-loop-item l = All (IsFree l.link) (take l.item-index l.body)
