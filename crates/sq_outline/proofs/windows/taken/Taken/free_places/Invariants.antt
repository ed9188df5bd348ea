use Rattle.std.proofs.Common.{◌≡◌, take}
use Rattle.std.specs.List.{filter}
use Rattle.sq_outline.specs.WindowsTaken.{is_free_at}
use Rattle.sq_outline.proofs.windows.taken.Taken.free_places.Given as goal

abbrev pub invariant-loop-place : goal.invariant-loop-place
invariant-loop-place l = l.free.items ≡ filter (is_free_at l.self l.n) (take l.place-index l.places)
