use Rattle.std.proofs.Common.{[], length, ap, arith, length-append}
use Rattle.std.proofs.lemmas.List.{length-map}
use Rattle.sq_arena.proofs.Positions.{length-at_positions}
use Rattle.sq_graph.specs.declared.slot.Slot.{Slot}
use Rattle.sq_graph.proofs.SlotNames.{listed_step}
use Rattle.sq_graph.proofs.naming.in_order.Goals as goal

pub loop-place-smaller : goal.loop-place-smaller
loop-place-smaller c =
    let step = listed_step c.args.slots.now.entries c.in-Some.name c.slot.result c.loop-place.list.items c.len.ensures.distinct c.slot.ensures (rw c.in-Some.is at c.loop-place.invariant.list) in
    rw (c.in-Some.is, c.next-place.ensures) step.1.1

pub loop-place-preserved : goal.loop-place-preserved
loop-place-preserved c =
    let step = listed_step c.args.slots.now.entries c.in-Some.name c.slot.result c.loop-place.list.items c.len.ensures.distinct c.slot.ensures (rw c.in-Some.is at c.loop-place.invariant.list) in
    record {
      place = rw c.next-place.ensures step.0;
      list = rw (c.next-place.ensures, c.in_ok-push.ensures.items) step.1.0;
    }

pub reserve-requires : goal.reserve-requires
reserve-requires c =
    let all = rw c.in_default.is at c.loop-place.invariant.list in
    omega (arith, c.spare.ensures.value, c.spare.ensures.bound, ap length c.in-Ok.ensures.entries, length-at_positions 0 c.deref.result.now, ap length c.deref.ensures.value, ap length all, length-append c.loop-place.list.items [], length-map {B = Slot} c.args.slots.now.entries (λ e. e.1))
