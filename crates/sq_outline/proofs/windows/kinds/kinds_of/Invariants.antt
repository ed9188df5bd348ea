use Rattle.std.proofs.Common.{take}
use Rattle.sq_outline.specs.WindowsKinds.{HasKinds}
use Rattle.sq_outline.proofs.WindowsKinds.{AreOnly}
use Rattle.sq_outline.proofs.windows.kinds.kinds_of.Given as goal

abbrev pub invariant-loop-item : goal.invariant-loop-item
invariant-loop-item l = record {
  all : HasKinds (take l.item-index l.items) l.kinds;
  only : AreOnly (take l.item-index l.items) l.kinds;
}
