use Rattle.std.proofs.Common.{length, ap, arith}
use Rattle.sq_layout.proofs.Walks.{items_few}
use Rattle.sq_outline.proofs.windows.joins.equal_from.Goals as goal

pub overflow_cast-place : goal.overflow_cast-place
overflow_cast-place c =
    let few = items_few c.args.graph.now.graph c.args.block c.learn.ensures.few in
    let is = ap length c.items-items.ensures in
    omega (arith, few, is)

pub overflow_cast-behind : goal.overflow_cast-behind
overflow_cast-behind c =
    let few = items_few c.args.graph.now.graph c.args.other c.learn.ensures.few in
    let is = ap length c.items-others.ensures in
    omega (arith, few, is)
