use Rattle.std.proofs.Common.{◌≡◌, take}
use Rattle.sq_drive.proofs.replaying.copy_of.Given as goal

abbrev pub invariant-loop-name : goal.invariant-loop-name
invariant-loop-name l = l.blocks ≡ take l.name-index l.names
