use Rattle.std.proofs.Common.{◌≡◌, take}
use Rattle.std.specs.List.{filter}
use Rattle.sq_outline.proofs.WindowsClasses.{stands_there}
use Rattle.sq_outline.proofs.windows.search.among.Given as goal

abbrev pub invariant-loop-place : goal.invariant-loop-place
invariant-loop-place l = l.found.items ≡ filter (stands_there l.graph.graph l.window) (take l.place-index l.places)
