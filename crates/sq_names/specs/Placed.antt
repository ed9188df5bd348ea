-- Functions with their tracks, as they are listed.
use Rattle.std.specs.Prelude.{ℕ, List, Option, Some, None, slice_get}
use Rattle.sq_names.specs.declared.listing.Placed.{Placed}
use Rattle.sq_names.specs.declared.track.Track.{Track}
use Rattle.sq_names.specs.Functions.{NamedFunction}
use Rattle.sq_names.specs.Listing.{Entry}

-- the function, with the bytes of its name
abbrev pub entry_of : Placed → Entry
entry_of placed = record { track = placed.track; name = placed.name.now }

-- a function with its track
abbrev pub joined : Option NamedFunction → Option Track → Option Entry
joined (Some function) (Some track) = Some (record { track = track; name = function.name })
joined function track = None

-- the function of a number with its track
abbrev pub entry_at : List NamedFunction → List Track → ℕ → Option Entry
entry_at functions tracks index = joined (slice_get functions index) (slice_get tracks index)
