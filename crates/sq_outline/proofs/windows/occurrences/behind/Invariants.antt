use Rattle.std.proofs.Common.{◌≡◌, take}
use Rattle.sq_outline.specs.WindowsMade.{behind}
use Rattle.sq_outline.proofs.windows.occurrences.behind.Given as goal

abbrev pub invariant-loop-site : goal.invariant-loop-site
invariant-loop-site l = l.ends.items ≡ behind l.n (take l.site-index l.sites)
