use Rattle.std.proofs.Common.{ℕ, List, take}
use Rattle.std.specs.List.{All}
use Rattle.sq_outline.specs.Sets.{CanMake}
use Rattle.sq_outline.proofs.sets.find_in.Given as goal

abbrev pub invariant-loop-name : goal.invariant-loop-name
invariant-loop-name l = All (λ first. (rest : List ℕ) → ¬ CanMake l.graph.graph first rest) (take l.name-index l.group)
