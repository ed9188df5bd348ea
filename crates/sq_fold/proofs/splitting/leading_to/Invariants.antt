use Rattle.std.proofs.Common.{take}
use Rattle.sq_fold.specs.Splitting.{AreInGroups}
use Rattle.sq_fold.proofs.splitting.leading_to.Given as goal

abbrev pub invariant-loop-place : goal.invariant-loop-place
invariant-loop-place l = AreInGroups l.sources (take l.place-index l.places) l.leading.keys
