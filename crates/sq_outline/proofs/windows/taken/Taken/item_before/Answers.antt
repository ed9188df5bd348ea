use Rattle.std.proofs.Common.{arith}
use Rattle.sq_outline.proofs.WindowsTakenOf.{has_fates}
use Rattle.sq_outline.proofs.windows.taken.Taken.item_before.Goals as goal

pub fate-requires : goal.fate-requires
fate-requires c =
    let within = c.requires.within in
    let some = c.loop-back-test.true in
    has_fates c.args.graph.now.graph c.args.self.now c.requires.taken c.args.block _ 1 c.requires.block (omega (arith, within, some))
