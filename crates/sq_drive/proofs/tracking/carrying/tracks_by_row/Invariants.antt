use Rattle.std.proofs.Common.{◌≡◌, map, take}
use Rattle.sq_drive.specs.Tracking.{carried, by_row}
use Rattle.sq_drive.proofs.tracking.carrying.tracks_by_row.Given as goal

abbrev pub invariant-loop-track : goal.invariant-loop-track
invariant-loop-track l =
    l.after.items ≡ map (carried (by_row l.step l.old.graph l.made.graph)) (take l.track-index l.tracks)
