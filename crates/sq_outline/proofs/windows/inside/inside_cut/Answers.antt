use Rattle.std.proofs.Common.{length, ap, arith}
use Rattle.sq_layout.proofs.Walks.{items_few}
use Rattle.sq_outline.proofs.windows.inside.inside_cut.Goals as goal

pub overflow_cast-length : goal.overflow_cast-length
overflow_cast-length c =
    let few = items_few c.args.graph.now.graph c.args.place.block c.learn.ensures.few in
    let within = c.requires.may.callable.within in
    let is = ap length c.body.ensures in
    omega arith
