use Rattle.std.proofs.Common.{length, ap, arith}
use Rattle.sq_layout.proofs.Walks.{items_few}
use Rattle.sq_outline.proofs.marks.mark_of.Goals as goal

pub overflow_cast-items : goal.overflow_cast-items
overflow_cast-items c =
    let few = items_few c.args.graph.now.graph c.args.block c.learn.ensures.few in
    let is = ap length c.items-items.ensures in
    omega (arith, few, is)
