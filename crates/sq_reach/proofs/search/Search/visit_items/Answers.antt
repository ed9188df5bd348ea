use Rattle.sq_graph.specs.Walks.{called_names}
use Rattle.sq_reach.proofs.Reaching.{reaches_more}
use Rattle.sq_reach.proofs.search.Search.visit_items.Goals as goal

pub loop-item-preserved : goal.loop-item-preserved
loop-item-preserved c = record {
  ok = reaches_more (called_names c.args.g.now.graph.procedures) c.args.items.now c.loop-item.item-index c.item-item.result c.loop-item-test.true c.item-item.is c.loop-item.invariant.ok c.in_ok-visit_item.ensures.ok;
  bodies = c.in_ok-visit_item.ensures.bodies;
}
