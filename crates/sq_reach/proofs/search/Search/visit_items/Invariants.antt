use Rattle.std.proofs.Common.{take}
use Rattle.std.specs.List.{flat_map}
use Rattle.sq_graph.specs.Walks.{called_names}
use Rattle.sq_reach.specs.Search.{Reaches, KnowsBodies}
use Rattle.sq_reach.proofs.search.Search.visit_items.Given as goal

abbrev pub invariant-loop-item : goal.invariant-loop-item
invariant-loop-item l = record {
  ok : Reaches (flat_map (called_names l.g.graph.procedures) (take l.item-index l.items)) l.initial.self l.self;
  bodies : KnowsBodies l.g.graph.procedures l.self;
}
