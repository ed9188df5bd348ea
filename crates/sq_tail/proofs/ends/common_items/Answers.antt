use Rattle.std.proofs.Common.{length, ap, arith}
use Rattle.sq_tail.proofs.Sizes.{few_items}
use Rattle.sq_tail.proofs.ends.common_items.Goals as goal

pub common_end-requires : goal.common_end-requires
common_end-requires c =
    let few = few_items c.args.graph.now c.args.block c.learn.ensures.small in
    let is = ap length c.items.ensures in
    omega arith
