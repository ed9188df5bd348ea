use Rattle.std.proofs.Common.{arith}
use Rattle.sq_graph.proofs.Sizes.{sizes}
use Rattle.sq_graph.proofs.graph.Graph.reserve.Goals as goal

pub reserve-requires : goal.reserve-requires
reserve-requires c =
    let size = sizes c.self.inside c.self.invariant in
    let small = rw (← c.self.view_is) at c.requires in
    omega (arith, size.block_count, small.blocks)

pub reserve-requires-2 : goal.reserve-requires-2
reserve-requires-2 c =
    let size = sizes c.self.inside c.self.invariant in
    let small = rw (← c.self.view_is) at c.requires in
    omega (arith, size.item_count, size.items, size.item_room, small.items, c.saturating_sub-more.ensures, c.self.inside.items.ok.0)

pub reserve-requires-3 : goal.reserve-requires-3
reserve-requires-3 c =
    let size = sizes c.self.inside c.self.invariant in
    let small = rw (← c.self.view_is) at c.requires in
    omega (arith, size.counted, small.procedures, c.self.inside.bodies.ok.0)
