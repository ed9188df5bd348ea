use Rattle.std.proofs.Common.{◌≡◌, ◌++◌, map, drop}
use Rattle.sq_names.specs.Listing.{entries_of}
use Rattle.sq_names.specs.Placed.{entry_of}
use Rattle.sq_names.proofs.listing.entries.Given as goal

abbrev pub invariant-loop-index : goal.invariant-loop-index
invariant-loop-index l =
    map entry_of l.entries.items ++ entries_of (drop l.index l.names) (drop l.index l.tracks) ≡ entries_of l.names l.tracks
