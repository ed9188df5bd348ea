use Rattle.std.proofs.Common.{◌≡◌, false, take}
use Rattle.std.specs.List.{All}
use Rattle.sq_graph.specs.Rules.{mentions}
use Rattle.sq_outline.proofs.link.is_unmentioned.Given as goal

abbrev pub invariant-loop-item : goal.invariant-loop-item
invariant-loop-item l = All (λ item. mentions item l.r ≡ false) (take l.item-index l.items)
