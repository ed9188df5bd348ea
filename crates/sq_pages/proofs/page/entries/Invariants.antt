use Rattle.std.proofs.Common.{◌≡◌, replicate}
use Rattle.sq_pages.proofs.page.entries.Given as goal

abbrev pub invariant-loop-place : goal.invariant-loop-place
invariant-loop-place g l = l.entries.items ≡ replicate l._place l.entry
