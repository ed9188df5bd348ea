use Rattle.std.proofs.Common.{length, ap, arith}
use Rattle.sq_layout.proofs.Walks.{items_few}
use Rattle.sq_outline.proofs.windows.doubles.dead_behind.Goals as goal

pub overflow_cast-items : goal.overflow_cast-items
overflow_cast-items c =
    let few = items_few c.args.graph.now.graph c.args.block c.learn.ensures.few in
    let is = ap length c.items-items.ensures in
    omega (arith, few, is)

pub live_at-requires : goal.live_at-requires
live_at-requires c =
    let count = c.requires.live.count c.args.block c.requires.block in
    let is = ap length c.items-items.ensures in
    omega (arith, count, is)
