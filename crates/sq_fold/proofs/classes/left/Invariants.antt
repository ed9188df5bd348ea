use Rattle.std.proofs.Common.{take}
use Rattle.sq_fold.specs.Splitting.{AreLeft}
use Rattle.sq_fold.proofs.classes.left.Given as goal

abbrev pub invariant-loop-place : goal.invariant-loop-place
invariant-loop-place l = AreLeft (take l.place-index l.list) l.classes l.class l.left.items
