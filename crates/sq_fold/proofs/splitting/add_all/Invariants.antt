use Rattle.std.proofs.Common.{take}
use Rattle.sq_fold.proofs.Splits.{AreAdded}
use Rattle.sq_fold.proofs.splitting.add_all.Given as goal

abbrev pub invariant-loop-place : goal.invariant-loop-place
invariant-loop-place l = AreAdded l.initial.set.keys (take l.place-index l.places) l.set.keys
