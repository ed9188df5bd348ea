use Rattle.std.proofs.Common.{◌≡◌, take}
use Rattle.sq_memory.specs.Regions.{put_all}
use Rattle.sq_memory.proofs.contents.Contents.put_all.Given as goal

abbrev pub invariant-loop-i : goal.invariant-loop-i
invariant-loop-i g l = l.self ≡ put_all l.initial.self l.address (take l.i l.cells)
