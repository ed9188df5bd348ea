use Rattle.std.proofs.Common.{◌≡◌, ◌<◌, ℕ, List, Some, slice_get}
use Rattle.std.specs.List.{All}
use Rattle.sq_outline.specs.Sets.{CanMake}
use Rattle.sq_outline.proofs.sets.find_among.Given as goal

-- none in the classes so far
abbrev pub invariant-loop-number : goal.invariant-loop-number
invariant-loop-number l =
    (k : ℕ) → k < l.number → (group : List ℕ) → slice_get l.groups k ≡ Some group → All (λ first. (rest : List ℕ) → ¬ CanMake l.graph.graph first rest) group
