use Rattle.std.proofs.Common.{◌≡◌, map, take}
use Rattle.sq_top.specs.Tracking.{begun_by}
use Rattle.sq_top.proofs.tracks.all_begun.Given as goal

abbrev pub invariant-loop-index : goal.invariant-loop-index
invariant-loop-index l = l.tracks.items ≡ map (begun_by l.starts) (take l.index l.names)
