use Rattle.std.proofs.Common.{arith}
use Rattle.sq_graph.proofs.Sizes.{sizes}
use Rattle.sq_graph.proofs.graph.Graph.spare.Goals as goal

pub overflow_cast-result-2 : goal.overflow_cast-result-2
overflow_cast-result-2 c =
    let size = sizes c.self.inside c.self.invariant in
    omega (arith, size.bodies, size.body_room, c.len-2.ensures, c.self.inside.bodies.ok.0)

pub overflow_add-result : goal.overflow_add-result
overflow_add-result c =
    let size = sizes c.self.inside c.self.invariant in
    omega (arith, size.item_room, size.gaps, size.blocks_end, size.items)
