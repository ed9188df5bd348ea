use Rattle.std.proofs.Common.{is_some, arith}
use Rattle.std.proofs.lemmas.List.Sums.{count_by-le-length}
use Rattle.sq_arena.proofs.FullNodes.{each_some}
use Rattle.sq_arena.proofs.links.full_nodes.Goals as goal

pub returns-clause-nodes : goal.returns-clause-nodes
returns-clause-nodes g c = λ key below.
    let most = c.capacity-capacity.ensures.slots in
    each_some c.loop.nodes.slots key
    (omega (arith, most, c.capacity-capacity.ensures.value, c.loop.invariant.len, c.loop.invariant.capacity, c.loop-test.false))
    (omega (arith, below, c.loop.invariant.enough, c.loop.invariant.len, c.loop.invariant.capacity, c.loop-test.false, count_by-le-length is_some c.loop.nodes.slots))
