use Rattle.std.proofs.Common.{◌≡◌, ◌<◌, ℕ, List, get_or}
use Rattle.sq_outline.specs.Links.{link_order}
use Rattle.sq_outline.specs.Sets.{CanMake}
use Rattle.sq_outline.proofs.sets.chosen_of.Given as goal

-- none of the registers so far
abbrev pub invariant-loop-number : goal.invariant-loop-number
invariant-loop-number l = (k : ℕ) → k < l.number-index → (rest : List ℕ) → (can : CanMake l.graph.graph l.first rest) → ¬ (can.register ≡ get_or link_order k 0)
