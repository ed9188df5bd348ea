use Rattle.std.proofs.Common.{arith}
use Rattle.sq_graph.proofs.SlotNames.{counts_at}
use Rattle.sq_graph.proofs.naming.is_in_order.Goals as goal

pub returns-then-name-position : goal.returns-then-name-position
returns-then-name-position c =
    let at = counts_at c.args.slots.now.entries c.in-Some.name c.loop-place.position c.requires.distinct (rw c.in-Some.is at c.loop-place.invariant) in
    (λ t. absurd (cc), λ all. absurd (at.apart c.if-name-position.true all))

pub overflow_add-position : goal.overflow_add-position
overflow_add-position c =
    let at = counts_at c.args.slots.now.entries c.in-Some.name c.loop-place.position c.requires.distinct (rw c.in-Some.is at c.loop-place.invariant) in
    omega (arith, at.fits)

pub loop-place-smaller : goal.loop-place-smaller
loop-place-smaller c =
    let at = counts_at c.args.slots.now.entries c.in-Some.name c.loop-place.position c.requires.distinct (rw c.in-Some.is at c.loop-place.invariant) in
    rw (c.in-Some.is, c.next-place.ensures) at.shorter

pub loop-place-preserved : goal.loop-place-preserved
loop-place-preserved c =
    let at = counts_at c.args.slots.now.entries c.in-Some.name c.loop-place.position c.requires.distinct (rw c.in-Some.is at c.loop-place.invariant) in
    rw c.next-place.ensures (at.next c.if-name-position.false)
