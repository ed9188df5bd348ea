use Rattle.std.proofs.Common.{◌∙◌, ◌++◌, ◌-◌, ap, is_some, length, refl, sym, arith, subst, length-append}
use Rattle.std.specs.List.{All, flat_map}
use Rattle.sq_graph.specs.Blocks.{HasProcedure, items_of}
use Rattle.sq_graph.specs.Fates.{settled_items}
use Rattle.sq_graph.specs.Uses.{item_calls}
use Rattle.sq_graph.proofs.CursorLaws.{value_of-with_value}
use Rattle.sq_graph.proofs.SlotWalks.{step_shortens}
use Rattle.sq_graph.proofs.Settling.{slot_is, block_is, called_there, settles_fit, settles_step}
use Rattle.sq_graph.proofs.fates.settle_blocks.Goals as goal

pub slot-found-requires : goal.slot-found-requires
slot-found-requires c =
    let walk = rw c.in-Some.is at c.loop-place.invariant.walk in
    ap is_some (slot_is c.args.graph.now.graph c.args.fates.now c.loop-place.slots.entries c.in-Some.name c.loop-place.items.items c.learn.ensures.rules walk)

pub items-requires : goal.items-requires
items-requires c =
    let walk = rw c.in-Some.is at c.loop-place.invariant.walk in
    ap is_some (block_is c.args.graph.now.graph c.args.fates.now c.loop-place.slots.entries c.in-Some.name c.loop-place.items.items c.learn.ensures.rules walk)

pub settle_items-requires-clause-called : goal.settle_items-requires-clause-called
settle_items-requires-clause-called c =
    let walk = rw c.in-Some.is at c.loop-place.invariant.walk in
    subst (λ is. All (HasProcedure c.args.graph.now.graph) (flat_map item_calls is)) (sym c.items.ensures)
    (called_there c.args.graph.now.graph c.args.fates.now c.loop-place.slots.entries c.in-Some.name c.loop-place.items.items c.learn.ensures.rules walk)

pub overflow_cast-length : goal.overflow_cast-length
overflow_cast-length c =
    let walk = rw c.in-Some.is at c.loop-place.invariant.walk in
    let made = c.in_ok-settle_items.ensures ∙ ap (λ is. c.loop-place.items.items ++ settled_items c.args.graph.now.graph c.args.fates.now is) c.items.ensures in
    omega (arith, c.requires.fits, c.len.ensures, c.settle_items.new.items.ok.0, settles_fit c.args.graph.now.graph c.args.fates.now c.loop-place.slots.entries c.in-Some.name c.loop-place.items.items c.learn.ensures.rules walk c.settle_items.new.items.items made)

pub next-place-requires : goal.next-place-requires
next-place-requires c =
    rw c.set.ensures.entries (ap is_some (value_of-with_value c.loop-place.slots.entries c.in-Some.name c.slot-found.result _ c.slot-found.ensures))

pub loop-place-smaller : goal.loop-place-smaller
loop-place-smaller c =
    let walk = rw c.in-Some.is at c.loop-place.invariant.walk in
    rw (c.in-Some.is, c.next-place.ensures, c.set.ensures.entries) (step_shortens c.loop-place.slots.entries c.in-Some.name c.slot-found.result _ walk.walk.distinct c.slot-found.ensures)

pub loop-place-preserved : goal.loop-place-preserved
loop-place-preserved c =
    let walk = rw c.in-Some.is at c.loop-place.invariant.walk in
    let made = c.in_ok-settle_items.ensures ∙ ap (λ is. c.loop-place.items.items ++ settled_items c.args.graph.now.graph c.args.fates.now is) c.items.ensures in
    record {
      walk =
          rw (c.next-place.ensures, c.set.ensures.entries)
          (settles_step c.args.graph.now.graph c.args.fates.now c.loop-place.slots.entries c.in-Some.name c.loop-place.items.items c.learn.ensures.rules walk c.slot-found.result _ c.len-start.result (c.len.result - c.len-start.result) c.settle_items.new.items.items c.slot-found.ensures (c.len-start.ensures ∙ c.loop-place.items.ok.0) made (omega (arith, c.len.ensures, c.len-start.ensures, c.settle_items.new.items.ok.0, c.loop-place.items.ok.0, ap (λ is. length is) made, length-append c.loop-place.items.items (settled_items c.args.graph.now.graph c.args.fates.now (items_of c.args.graph.now.graph c.in-Some.name)))) refl);
      spare = c.set.ensures.spare ∙ c.loop-place.invariant.spare;
    }
