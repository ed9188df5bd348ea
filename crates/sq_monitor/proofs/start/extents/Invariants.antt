use Rattle.std.proofs.Common.{◌≡◌, map, take}
use Rattle.sq_monitor.specs.Starts.{extent_of}
use Rattle.sq_monitor.proofs.start.extents.Given as goal

abbrev pub invariant-loop-piece : goal.invariant-loop-piece
invariant-loop-piece l = l.extents.items ≡ map extent_of (take l.piece-index l.pieces)
