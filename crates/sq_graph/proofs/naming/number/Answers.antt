use Rattle.std.proofs.Common.{ap, is_some, arith}
use Rattle.sq_graph.proofs.CursorLaws.{value_of-with_value}
use Rattle.sq_graph.proofs.SlotWalks.{started, step_shortens}
use Rattle.sq_graph.proofs.SlotNames.{numbers_first, number_fits, number_step}
use Rattle.sq_graph.proofs.naming.number.Goals as goal

pub loop-place-init : goal.loop-place-init
loop-place-init c = rw c.first-place.ensures (numbers_first c.args.slots.now.entries c.requires.distinct c.requires.count)

pub slot-found-requires : goal.slot-found-requires
slot-found-requires c =
    let walk = rw c.in-Some.is at c.loop-place.invariant in
    walk.is_place

pub overflow_add-position : goal.overflow_add-position
overflow_add-position c =
    let walk = rw c.in-Some.is at c.loop-place.invariant in
    omega (arith, number_fits c.loop-place.slots.entries _ c.in-Some.name c.slot-found.result c.loop-place.position walk c.slot-found.ensures)

pub next-place-requires : goal.next-place-requires
next-place-requires c =
    rw c.set.ensures.entries (ap is_some (value_of-with_value c.loop-place.slots.entries c.in-Some.name c.slot-found.result (started c.loop-place.position c.slot-found.result) c.slot-found.ensures))

pub loop-place-smaller : goal.loop-place-smaller
loop-place-smaller c =
    let walk = rw c.in-Some.is at c.loop-place.invariant in
    rw (c.in-Some.is, c.next-place.ensures, c.set.ensures.entries) (step_shortens c.loop-place.slots.entries c.in-Some.name c.slot-found.result (started c.loop-place.position c.slot-found.result) walk.distinct c.slot-found.ensures)

pub loop-place-preserved : goal.loop-place-preserved
loop-place-preserved c =
    let walk = rw c.in-Some.is at c.loop-place.invariant in
    rw (c.next-place.ensures, c.set.ensures.entries)
    (number_step c.loop-place.slots.entries _ c.in-Some.name c.slot-found.result c.loop-place.position walk c.slot-found.ensures)
