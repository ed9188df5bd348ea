use Rattle.std.proofs.Common.{◌∙◌, ap, is_some}
use Rattle.sq_graph.proofs.CursorLaws.{value_of-with_value}
use Rattle.sq_graph.proofs.SlotWalks.{retargeted_slot, retarget_known, retarget_step, step_shortens}
use Rattle.sq_graph.proofs.slots.retarget.Goals as goal

pub slot-found-requires : goal.slot-found-requires
slot-found-requires g c =
    let walk = rw c.in-Some.is at c.loop-place.invariant.walk in
    walk.is_place

pub retarget_term-term-requires : goal.retarget_term-term-requires
retarget_term-term-requires g c =
    let walk = rw c.in-Some.is at c.loop-place.invariant.walk in
    retarget_known (g.R.Rename.name_of c.args.by.now) (g.R.Rename.Knows c.args.by.now) c.loop-place.slots.entries _ c.in-Some.name c.slot-found.result walk c.slot-found.ensures

pub next-place-requires : goal.next-place-requires
next-place-requires g c =
    rw (c.set.ensures.entries, c.retarget_term-term.ensures) (ap is_some (value_of-with_value c.loop-place.slots.entries c.in-Some.name c.slot-found.result (retargeted_slot (g.R.Rename.name_of c.args.by.now) (g.R.Rename.Knows c.args.by.now) c.slot-found.result) c.slot-found.ensures))

pub loop-place-smaller : goal.loop-place-smaller
loop-place-smaller g c =
    let walk = rw c.in-Some.is at c.loop-place.invariant.walk in
    rw (c.in-Some.is, c.next-place.ensures, c.set.ensures.entries, c.retarget_term-term.ensures) (step_shortens c.loop-place.slots.entries c.in-Some.name c.slot-found.result (retargeted_slot (g.R.Rename.name_of c.args.by.now) (g.R.Rename.Knows c.args.by.now) c.slot-found.result) walk.distinct c.slot-found.ensures)

pub loop-place-preserved : goal.loop-place-preserved
loop-place-preserved g c =
    let walk = rw c.in-Some.is at c.loop-place.invariant.walk in
    record {
      walk =
          rw (c.next-place.ensures, c.set.ensures.entries, c.retarget_term-term.ensures)
          (retarget_step (g.R.Rename.name_of c.args.by.now) (g.R.Rename.Knows c.args.by.now) c.loop-place.slots.entries _ c.in-Some.name c.slot-found.result walk c.slot-found.ensures);
      spare = c.set.ensures.spare ∙ c.loop-place.invariant.spare;
    }
