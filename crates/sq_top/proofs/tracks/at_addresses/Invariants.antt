use Rattle.std.proofs.Common.{◌≡◌, map, take}
use Rattle.sq_drive.specs.Tracking.{carried}
use Rattle.sq_top.specs.Tracking.{placed_at}
use Rattle.sq_top.proofs.tracks.at_addresses.Given as goal

abbrev pub invariant-loop-track : goal.invariant-loop-track
invariant-loop-track l = l.after.items ≡ map (carried (placed_at l.places)) (take l.track-index l.tracks)
