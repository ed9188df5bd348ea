use Rattle.std.proofs.Common.{◌∙◌, arith}
use Rattle.sq_graph.specs.CanonicalSlots.{joined_slots}
use Rattle.sq_graph.proofs.BackWalks.{next_done, next_there, one_done, one_less, all_done}
use Rattle.sq_graph.proofs.SlotPasses.{join_fits, join_is}
use Rattle.sq_graph.proofs.canonical.join.Goals as goal

pub previous-place-requires : goal.previous-place-requires
previous-place-requires c =
    let walk = rw c.in-Some.is at c.loop-place.invariant.walk in
    next_there joined_slots c.args.slots.now.entries c.loop-place.slots.entries c.in-Some.name walk

pub join_next-requires-clause-key : goal.join_next-requires-clause-key
join_next-requires-clause-key c =
    let walk = rw c.in-Some.is at c.loop-place.invariant.walk in
    next_there joined_slots c.args.slots.now.entries c.loop-place.slots.entries c.in-Some.name walk

pub join_next-requires-clause-fits : goal.join_next-requires-clause-fits
join_next-requires-clause-fits c =
    omega (arith, c.requires.fits, join_fits c.args.slots.now.entries c.loop-place.slots.entries c.loop-place.place c.loop-place.invariant.walk)

pub loop-place-smaller : goal.loop-place-smaller
loop-place-smaller c =
    let walk = rw c.in-Some.is at c.loop-place.invariant.walk in
    let next = next_done joined_slots c.args.slots.now.entries c.loop-place.slots.entries c.in-Some.name walk in
    let is = join_is c.args.slots.now.entries c.loop-place.slots.entries c.join_next.new.slots.entries c.in-Some.name next c.join_next.ensures.entries in
    rw c.in-Some.is (one_less joined_slots c.args.slots.now.entries c.loop-place.slots.entries c.join_next.new.slots.entries c.in-Some.name c.previous-place.result next is c.join_next.ensures.distinct c.previous-place.ensures)

pub loop-place-preserved : goal.loop-place-preserved
loop-place-preserved c =
    let walk = rw c.in-Some.is at c.loop-place.invariant.walk in
    let next = next_done joined_slots c.args.slots.now.entries c.loop-place.slots.entries c.in-Some.name walk in
    let is = join_is c.args.slots.now.entries c.loop-place.slots.entries c.join_next.new.slots.entries c.in-Some.name next c.join_next.ensures.entries in
    record {
      walk = one_done joined_slots c.args.slots.now.entries c.loop-place.slots.entries c.join_next.new.slots.entries c.in-Some.name c.previous-place.result next is c.join_next.ensures.distinct c.previous-place.ensures;
      total = c.join_next.ensures.total ∙ c.loop-place.invariant.total;
    }

pub returns-clause-entries : goal.returns-clause-entries
returns-clause-entries c =
    let walk = rw c.in_default.is at c.loop-place.invariant.walk in
    all_done joined_slots c.args.slots.now.entries c.loop-place.slots.entries walk
