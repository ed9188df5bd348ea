use Rattle.std.proofs.Common.{◌≡◌, map, take, nat_eq}
use Rattle.std.specs.HashMap.{get}
use Rattle.std.specs.Option.{unwrap_or}
use Rattle.sq_drive.specs.Tracking.{carried, standing}
use Rattle.sq_drive.proofs.tracking.landing.stand_all.Given as goal

abbrev pub invariant-loop-track : goal.invariant-loop-track
invariant-loop-track l =
    l.after.items ≡ map (carried (λ block. standing (get nat_eq l.slots (unwrap_or (get nat_eq l.landings block) block)))) (take l.track-index l.tracks)
