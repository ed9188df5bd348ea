use Rattle.test_graphs.specs.Standing.{ItemIsRight}
use Rattle.test_graphs.proofs.Looked.{one_more, all_looked_at}
use Rattle.test_graphs.proofs.rules.items_are_right.Goals as goal

pub loop-item-preserved : goal.loop-item-preserved
loop-item-preserved c =
    one_more (ItemIsRight c.args.blocks c.args.procedures) c.args.items.now c.loop-item.item-index c.item-item.result c.loop-item-test.true c.item-item.is (c.item_is_right.ensures c.if-not-item_is_right.false) c.loop-item.invariant

pub returns : goal.returns
returns c = λ _. all_looked_at (ItemIsRight c.args.blocks c.args.procedures) c.args.items.now c.loop-item.item-index c.loop-item-test.false c.loop-item.invariant
