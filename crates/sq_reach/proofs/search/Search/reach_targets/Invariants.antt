use Rattle.std.proofs.Common.{◌≡◌, take}
use Rattle.sq_graph.specs.Uses.{items_uses}
use Rattle.sq_reach.specs.Search.{Reaches}
use Rattle.sq_reach.proofs.search.Search.reach_targets.Given as goal

abbrev pub invariant-loop-item : goal.invariant-loop-item
invariant-loop-item l = record {
  ok : Reaches (items_uses (take l.item-index l.items)) l.initial.self l.self;
  called : l.self.called ≡ l.initial.self.called;
}
