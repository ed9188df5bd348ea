use Rattle.std.proofs.Common.{length, ap, arith}
use Rattle.sq_tail.proofs.Sizes.{few_items}
use Rattle.sq_tail.proofs.find.body_cut.Goals as goal

pub overflow_cast-length : goal.overflow_cast-length
overflow_cast-length c =
    let few = few_items c.args.graph.now c.args.pair.kept c.learn.ensures.small in
    let is = ap length c.items.ensures in
    omega arith
