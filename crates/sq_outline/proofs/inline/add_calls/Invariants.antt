use Rattle.std.proofs.Common.{◌≡◌, ◌+◌, ℕ, take}
use Rattle.sq_outline.specs.InlineSteps.{counted}
use Rattle.sq_outline.proofs.Spreading.{calls_in}
use Rattle.sq_outline.proofs.inline.add_calls.Given as goal

abbrev pub invariant-loop-item : goal.invariant-loop-item
invariant-loop-item l = (p : ℕ) → counted l.calls p ≡ counted l.initial.calls p + calls_in p (take l.item-index l.items)
