use Rattle.std.proofs.Common.{◌∙◌, ap, is_some}
use Rattle.sq_graph.proofs.CursorLaws.{value_of-with_value}
use Rattle.sq_graph.proofs.SlotWalks.{started, step_shortens}
use Rattle.sq_graph.proofs.Restarting.{home_step}
use Rattle.sq_graph.proofs.redirect.aim_home.Goals as goal

pub slot-found-requires : goal.slot-found-requires
slot-found-requires c =
    let walk = rw c.in-Some.is at c.loop-place.invariant.walk in
    walk.is_place

pub next-place-requires : goal.next-place-requires
next-place-requires c =
    rw c.set.ensures.entries (ap is_some (value_of-with_value c.loop-place.slots.entries c.in-Some.name c.slot-found.result (started c.in-Some.name c.slot-found.result) c.slot-found.ensures))

pub loop-place-smaller : goal.loop-place-smaller
loop-place-smaller c =
    let walk = rw c.in-Some.is at c.loop-place.invariant.walk in
    rw (c.in-Some.is, c.next-place.ensures, c.set.ensures.entries) (step_shortens c.loop-place.slots.entries c.in-Some.name c.slot-found.result (started c.in-Some.name c.slot-found.result) walk.distinct c.slot-found.ensures)

pub loop-place-preserved : goal.loop-place-preserved
loop-place-preserved c =
    let walk = rw c.in-Some.is at c.loop-place.invariant.walk in
    record {
      walk =
          rw (c.next-place.ensures, c.set.ensures.entries)
          (home_step c.loop-place.slots.entries _ c.in-Some.name c.slot-found.result walk c.slot-found.ensures);
      spare = c.set.ensures.spare ∙ c.loop-place.invariant.spare;
    }
