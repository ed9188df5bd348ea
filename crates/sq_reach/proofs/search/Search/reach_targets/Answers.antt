use Rattle.std.proofs.Common.{◌∙◌}
use Rattle.sq_graph.specs.Uses.{item_uses}
use Rattle.sq_reach.proofs.Reaching.{reaches_more}
use Rattle.sq_reach.proofs.search.Search.reach_targets.Goals as goal

pub loop-item-preserved : goal.loop-item-preserved
loop-item-preserved c = record {
  ok = reaches_more item_uses c.args.items.now c.loop-item.item-index c.item-item.result c.loop-item-test.true c.item-item.is c.loop-item.invariant.ok c.in_ok-reach_target.ensures.ok;
  called = c.in_ok-reach_target.ensures.called ∙ c.loop-item.invariant.called;
}
