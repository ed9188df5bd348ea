use Rattle.std.proofs.Common.{length, ap, arith}
use Rattle.sq_outline.proofs.WindowsTakenOf.{has_fates}
use Rattle.sq_outline.proofs.windows.doubles.may_stand_for.Goals as goal

pub are_free-requires : goal.are_free-requires
are_free-requires c =
    let is = ap length c.items-items.ensures in
    has_fates c.args.graph.now.graph c.args.taken.now c.requires.taken c.args.block 0 _ c.requires.block (omega (arith, is))
