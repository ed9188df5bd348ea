use Rattle.std.proofs.Common.{length, ap, arith}
use Rattle.sq_layout.proofs.Walks.{items_few}
use Rattle.sq_outline.proofs.make.end_of.Goals as goal

pub overflow_cast-result : goal.overflow_cast-result
overflow_cast-result c =
    let few = items_few c.args.graph.now.graph c.args.block c.learn.ensures.few in
    let is = ap length c.items.ensures in
    omega arith
