use Rattle.std.proofs.Common.{◌∙◌, ap, is_some, arith}
use Rattle.sq_graph.proofs.CursorLaws.{value_of-with_value}
use Rattle.sq_graph.proofs.SlotWalks.{started, renumber_step, renumber_fits, step_shortens}
use Rattle.sq_graph.proofs.Numbering.{settles_step, settled}
use Rattle.sq_graph.proofs.slots.renumber_until_right.Goals as goal

pub slot-found-requires : goal.slot-found-requires
slot-found-requires c =
    let walk = rw c.in-Some.is at c.loop-place.invariant.walk in
    walk.is_place

pub overflow_add-start : goal.overflow_add-start
overflow_add-start c =
    let walk = rw c.in-Some.is at c.loop-place.invariant.walk in
    omega (arith, renumber_fits c.loop-place.slots.entries _ c.in-Some.name c.slot-found.result c.loop-place.start walk c.slot-found.ensures)

pub next-place-requires : goal.next-place-requires
next-place-requires c =
    rw c.set.ensures.entries (ap is_some (value_of-with_value c.loop-place.slots.entries c.in-Some.name c.slot-found.result (started c.loop-place.start c.slot-found.result) c.slot-found.ensures))

pub loop-place-smaller : goal.loop-place-smaller
loop-place-smaller c =
    let walk = rw c.in-Some.is at c.loop-place.invariant.walk in
    rw (c.in-Some.is, c.next-place.ensures, c.set.ensures.entries) (step_shortens c.loop-place.slots.entries c.in-Some.name c.slot-found.result (started c.loop-place.start c.slot-found.result) walk.distinct c.slot-found.ensures)

pub loop-place-preserved : goal.loop-place-preserved
loop-place-preserved c =
    let walk = rw c.in-Some.is at c.loop-place.invariant.walk in
    let settles = rw c.in-Some.is at c.loop-place.invariant.settles in
    record {
      walk =
          rw (c.next-place.ensures, c.set.ensures.entries)
          (renumber_step c.loop-place.slots.entries _ c.in-Some.name c.slot-found.result c.loop-place.start walk c.slot-found.ensures);
      settles =
          rw (c.next-place.ensures, c.set.ensures.entries)
          (settles_step c.loop-place.slots.entries c.in-Some.name c.slot-found.result c.loop-place.start walk.distinct c.slot-found.ensures settles);
      spare = c.set.ensures.spare ∙ c.loop-place.invariant.spare;
    }

pub returns-then-found-start-clause-entries : goal.returns-then-found-start-clause-entries
returns-then-found-start-clause-entries c =
    let walk = rw c.in-Some.is at c.loop-place.invariant.walk in
    let settles = rw c.in-Some.is at c.loop-place.invariant.settles in
    settled c.loop-place.slots.entries _ c.in-Some.name c.slot-found.result c.loop-place.start walk settles c.slot-found.ensures c.if-found-start.true
