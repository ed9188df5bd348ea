use Rattle.std.proofs.Common.{◌≡◌, flat_map, take}
use Rattle.sq_names.specs.Listing.{entry_line}
use Rattle.sq_names.specs.Placed.{entry_of}
use Rattle.sq_names.proofs.listing.lines.Given as goal

abbrev pub invariant-loop-entry : goal.invariant-loop-entry
invariant-loop-entry l = l.text.items ≡ flat_map (λ entry. entry_line (entry_of entry)) (take l.entry-index l.entries)
