use Rattle.std.proofs.Common.{arith, ap, length}
use Rattle.test_graphs.proofs.places.is_dead.Goals as goal

pub dead_at-requires : goal.dead_at-requires
dead_at-requires c =
    let there = c.is_block.ensures c.if-not-is_block.false in
    omega (arith, c.if-items-place.false, ap (λ items. length items) c.items.ensures, c.requires.count c.args.block there)
