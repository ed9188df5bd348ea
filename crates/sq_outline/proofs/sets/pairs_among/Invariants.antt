use Rattle.std.proofs.Common.{◌≡◌, ◌-◌, ◌^◌, min, take}
use Rattle.std.specs.List.{sum_by}
use Rattle.sq_outline.specs.Sets.{pairs_in}
use Rattle.sq_outline.proofs.sets.pairs_among.Given as goal

abbrev pub invariant-loop-number : goal.invariant-loop-number
invariant-loop-number l = l.count ≡ min (sum_by (pairs_in l.graph.graph) (take l.number l.groups)) (2 ^ 64 - 1)
