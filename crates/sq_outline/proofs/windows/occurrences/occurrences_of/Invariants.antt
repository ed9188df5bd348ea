use Rattle.std.proofs.Common.{◌≡◌, ◌++◌, None, drop}
use Rattle.sq_outline.specs.WindowsSearch.{thinned}
use Rattle.sq_outline.proofs.windows.occurrences.occurrences_of.Given as goal

abbrev pub invariant-loop-place : goal.invariant-loop-place
invariant-loop-place l = l.sites.items ++ thinned l.n l.last (drop l.place-index l.places) ≡ thinned l.n None l.places
