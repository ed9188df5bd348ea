use Rattle.std.proofs.Common.{length, ap, arith}
use Rattle.sq_layout.proofs.Walks.{items_few}
use Rattle.sq_outline.proofs.WindowsTakenOf.{has_fates}
use Rattle.sq_outline.proofs.windows.taken.Taken.items.Goals as goal

pub overflow_cast-at : goal.overflow_cast-at
overflow_cast-at c =
    let few = items_few c.args.graph.now.graph c.args.block c.learn.ensures.few in
    let is = ap length c.items-items.ensures in
    let within = c.loop-at-test.true in
    omega (arith, few, is, within)

pub fate-requires : goal.fate-requires
fate-requires c =
    let is = ap length c.items-items.ensures in
    let within = c.loop-at-test.true in
    has_fates c.args.graph.now.graph c.args.self.now c.requires.taken c.args.block _ 1 c.requires.block (omega (arith, is, within))
