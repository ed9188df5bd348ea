-- Where functions are, as the calls answer it.
use Rattle.std.specs.Prelude.{ℕ, if◌then◌else◌}
use Rattle.std.specs.Option.{unwrap_or}
use Rattle.sq_layout.specs.Addresses.{Addresses, address_of}
use Rattle.sq_lift.specs.Flags.{is_flagged}
use Rattle.sq_lift.specs.Starts.{Starts, slot_at}
use Rattle.sq_names.specs.declared.track.Track.{Track}
use Rattle.sq_names.specs.declared.track.Track.TheVariants.{At, Gone}
use Rattle.sq_names.specs.Functions.{NamedFunction}
use Rattle.sq_drive.specs.Tracking.{standing}

-- by the starts of the file
abbrev pub begun_by : Starts → NamedFunction → Track
begun_by starts function = if is_flagged starts.reached function.value then standing (slot_at starts function.value) else Gone

-- by the places of blocks
abbrev pub placed_at : Addresses → ℕ → Track
placed_at places block = At (unwrap_or (address_of places block) 0)
