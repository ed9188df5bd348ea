use Rattle.std.proofs.Common.{◌∙◌, ◌+◌, ◌-◌, IsSome, length, ap, refl, arith, subst}
use Rattle.std.proofs.lemmas.Option.{slice_get_read}
use Rattle.sq_graph.specs.declared.graph.Graph.TheInside.{Inside}
use Rattle.sq_graph.specs.Operations.{replaced_items, called_at, called_body, inlined}
use Rattle.sq_graph.specs.Layout.{graph_of}
use Rattle.sq_graph.proofs.Sizes.{same_room}
use Rattle.sq_graph.proofs.Changes.{distinct_slots}
use Rattle.sq_graph.proofs.SlotReads.{has_slot}
use Rattle.sq_graph.proofs.ItemWrites.{placed, replace_shows, replace_spare}
use Rattle.sq_graph.proofs.ProcedureWrites.{called_inside, called_is, called_exists, inlines}
use Rattle.sq_graph.proofs.Tight.{closed}
use Rattle.sq_graph.proofs.graph.Graph.inline.Goals as goal

pub slot-slot-requires : goal.slot-slot-requires
slot-slot-requires c =
    let t = closed c.self.view_is c.self.invariant c.close_gaps.ensures.kept c.close_gaps.ensures.gaps c.close_gaps.ensures.order in
    has_slot _ c.args.block t.tight.sound (rw (← t.view_is) at c.requires.block)

pub overflow_add-place : goal.overflow_add-place
overflow_add-place c =
    let now : Inside = record c.self.inside { slots = c.close_gaps.new.slots; items = c.close_gaps.new.items; blocks_end = c.close_gaps.new.blocks_end; gaps = c.close_gaps.new.gaps; loose = c.close_gaps.new.loose } in
    let t = closed c.self.view_is c.self.invariant c.close_gaps.ensures.kept c.close_gaps.ensures.gaps c.close_gaps.ensures.order in
    let p = placed _ c.args.block c.slot-slot.result t.tight (rw (← t.view_is) at c.requires.block) c.slot-slot.ensures in
    let inside = called_inside (graph_of now) c.args.block c.args.at (rw (← t.view_is) at c.requires.out) in
    omega (arith, inside, p.counted, p.size, p.sizes.items, p.sizes.item_room)

pub index-requires : goal.index-requires
index-requires c =
    let now : Inside = record c.self.inside { slots = c.close_gaps.new.slots; items = c.close_gaps.new.items; blocks_end = c.close_gaps.new.blocks_end; gaps = c.close_gaps.new.gaps; loose = c.close_gaps.new.loose } in
    let t = closed c.self.view_is c.self.invariant c.close_gaps.ensures.kept c.close_gaps.ensures.gaps c.close_gaps.ensures.order in
    let p = placed _ c.args.block c.slot-slot.result t.tight (rw (← t.view_is) at c.requires.block) c.slot-slot.ensures in
    let inside = called_inside (graph_of now) c.args.block c.args.at (rw (← t.view_is) at c.requires.out) in
    omega (arith, inside, p.counted, p.size, c.close_gaps.new.items.ok.0)

pub unwrap-procedure-requires : goal.unwrap-procedure-requires
unwrap-procedure-requires c =
    let t = closed c.self.view_is c.self.invariant c.close_gaps.ensures.kept c.close_gaps.ensures.gaps c.close_gaps.ensures.order in
    let called = called_is _ c.args.block c.slot-slot.result c.args.at c.index.result.now c.called.result (placed _ c.args.block c.slot-slot.result t.tight (rw (← t.view_is) at c.requires.block) c.slot-slot.ensures) (rw (← t.view_is) at c.requires.out) c.index.ensures c.called.ensures in
    subst IsSome called (rw (← t.view_is) at c.requires.out)

pub index-body-requires : goal.index-body-requires
index-body-requires c =
    let t = closed c.self.view_is c.self.invariant c.close_gaps.ensures.kept c.close_gaps.ensures.gaps c.close_gaps.ensures.order in
    omega (arith, called_exists _ c.args.block c.slot-slot.result c.args.at c.index.result.now c.called.result c.unwrap-procedure.result t.tight (placed _ c.args.block c.slot-slot.result t.tight (rw (← t.view_is) at c.requires.block) c.slot-slot.ensures) (rw (← t.view_is) at c.requires.out) c.index.ensures c.called.ensures c.unwrap-procedure.ensures, c.self.inside.bodies.ok.0)

pub overflow_add-from : goal.overflow_add-from
overflow_add-from c =
    let now : Inside = record c.self.inside { slots = c.close_gaps.new.slots; items = c.close_gaps.new.items; blocks_end = c.close_gaps.new.blocks_end; gaps = c.close_gaps.new.gaps; loose = c.close_gaps.new.loose } in
    let t = closed c.self.view_is c.self.invariant c.close_gaps.ensures.kept c.close_gaps.ensures.gaps c.close_gaps.ensures.order in
    let p = placed _ c.args.block c.slot-slot.result t.tight (rw (← t.view_is) at c.requires.block) c.slot-slot.ensures in
    let inside = called_inside (graph_of now) c.args.block c.args.at (rw (← t.view_is) at c.requires.out) in
    let there = called_exists _ c.args.block c.slot-slot.result c.args.at c.index.result.now c.called.result c.unwrap-procedure.result t.tight (placed _ c.args.block c.slot-slot.result t.tight (rw (← t.view_is) at c.requires.block) c.slot-slot.ensures) (rw (← t.view_is) at c.requires.out) c.index.ensures c.called.ensures c.unwrap-procedure.ensures in
    let called = called_is _ c.args.block c.slot-slot.result c.args.at c.index.result.now c.called.result (placed _ c.args.block c.slot-slot.result t.tight (rw (← t.view_is) at c.requires.block) c.slot-slot.ensures) (rw (← t.view_is) at c.requires.out) c.index.ensures c.called.ensures in
    let found = slice_get_read c.self.inside.bodies.items _ c.unwrap-procedure.result _ c.self.inside.bodies.ok.0 (omega (arith, there, c.self.inside.bodies.ok.0)) c.index-body.ensures in
    let i = inlines _ c.args.block c.args.at c.unwrap-procedure.result c.index-body.result.now t.tight (called ∙ c.unwrap-procedure.ensures) found in
    let spare = rw (← t.view_is) at c.requires.spare in
    omega (arith, inside, p.counted, p.size, p.blocks_end, p.behind_length, p.sizes.items, p.sizes.item_room, i.within, i.counted, spare, t.tight.room.item_room, c.close_gaps.new.items.ok.0)

pub replace_by_copy-requires-clause-at : goal.replace_by_copy-requires-clause-at
replace_by_copy-requires-clause-at c =
    let now : Inside = record c.self.inside { slots = c.close_gaps.new.slots; items = c.close_gaps.new.items; blocks_end = c.close_gaps.new.blocks_end; gaps = c.close_gaps.new.gaps; loose = c.close_gaps.new.loose } in
    let t = closed c.self.view_is c.self.invariant c.close_gaps.ensures.kept c.close_gaps.ensures.gaps c.close_gaps.ensures.order in
    let p = placed _ c.args.block c.slot-slot.result t.tight (rw (← t.view_is) at c.requires.block) c.slot-slot.ensures in
    let inside = called_inside (graph_of now) c.args.block c.args.at (rw (← t.view_is) at c.requires.out) in
    let there = called_exists _ c.args.block c.slot-slot.result c.args.at c.index.result.now c.called.result c.unwrap-procedure.result t.tight (placed _ c.args.block c.slot-slot.result t.tight (rw (← t.view_is) at c.requires.block) c.slot-slot.ensures) (rw (← t.view_is) at c.requires.out) c.index.ensures c.called.ensures c.unwrap-procedure.ensures in
    let called = called_is _ c.args.block c.slot-slot.result c.args.at c.index.result.now c.called.result (placed _ c.args.block c.slot-slot.result t.tight (rw (← t.view_is) at c.requires.block) c.slot-slot.ensures) (rw (← t.view_is) at c.requires.out) c.index.ensures c.called.ensures in
    let found = slice_get_read c.self.inside.bodies.items _ c.unwrap-procedure.result _ c.self.inside.bodies.ok.0 (omega (arith, there, c.self.inside.bodies.ok.0)) c.index-body.ensures in
    let i = inlines _ c.args.block c.args.at c.unwrap-procedure.result c.index-body.result.now t.tight (called ∙ c.unwrap-procedure.ensures) found in
    let spare = rw (← t.view_is) at c.requires.spare in
    omega (arith, inside, p.counted, p.size, p.blocks_end, p.behind_length, p.sizes.items, p.sizes.item_room, i.within, i.counted, spare, t.tight.room.item_room, c.close_gaps.new.items.ok.0)

pub replace_by_copy-requires-clause-from : goal.replace_by_copy-requires-clause-from
replace_by_copy-requires-clause-from c =
    let now : Inside = record c.self.inside { slots = c.close_gaps.new.slots; items = c.close_gaps.new.items; blocks_end = c.close_gaps.new.blocks_end; gaps = c.close_gaps.new.gaps; loose = c.close_gaps.new.loose } in
    let t = closed c.self.view_is c.self.invariant c.close_gaps.ensures.kept c.close_gaps.ensures.gaps c.close_gaps.ensures.order in
    let p = placed _ c.args.block c.slot-slot.result t.tight (rw (← t.view_is) at c.requires.block) c.slot-slot.ensures in
    let inside = called_inside (graph_of now) c.args.block c.args.at (rw (← t.view_is) at c.requires.out) in
    let there = called_exists _ c.args.block c.slot-slot.result c.args.at c.index.result.now c.called.result c.unwrap-procedure.result t.tight (placed _ c.args.block c.slot-slot.result t.tight (rw (← t.view_is) at c.requires.block) c.slot-slot.ensures) (rw (← t.view_is) at c.requires.out) c.index.ensures c.called.ensures c.unwrap-procedure.ensures in
    let called = called_is _ c.args.block c.slot-slot.result c.args.at c.index.result.now c.called.result (placed _ c.args.block c.slot-slot.result t.tight (rw (← t.view_is) at c.requires.block) c.slot-slot.ensures) (rw (← t.view_is) at c.requires.out) c.index.ensures c.called.ensures in
    let found = slice_get_read c.self.inside.bodies.items _ c.unwrap-procedure.result _ c.self.inside.bodies.ok.0 (omega (arith, there, c.self.inside.bodies.ok.0)) c.index-body.ensures in
    let i = inlines _ c.args.block c.args.at c.unwrap-procedure.result c.index-body.result.now t.tight (called ∙ c.unwrap-procedure.ensures) found in
    let spare = rw (← t.view_is) at c.requires.spare in
    omega (arith, inside, p.counted, p.size, p.blocks_end, p.behind_length, p.sizes.items, p.sizes.item_room, i.within, i.counted, spare, t.tight.room.item_room, c.close_gaps.new.items.ok.0)

pub replace_by_copy-requires-clause-room : goal.replace_by_copy-requires-clause-room
replace_by_copy-requires-clause-room c =
    let now : Inside = record c.self.inside { slots = c.close_gaps.new.slots; items = c.close_gaps.new.items; blocks_end = c.close_gaps.new.blocks_end; gaps = c.close_gaps.new.gaps; loose = c.close_gaps.new.loose } in
    let t = closed c.self.view_is c.self.invariant c.close_gaps.ensures.kept c.close_gaps.ensures.gaps c.close_gaps.ensures.order in
    let p = placed _ c.args.block c.slot-slot.result t.tight (rw (← t.view_is) at c.requires.block) c.slot-slot.ensures in
    let inside = called_inside (graph_of now) c.args.block c.args.at (rw (← t.view_is) at c.requires.out) in
    let there = called_exists _ c.args.block c.slot-slot.result c.args.at c.index.result.now c.called.result c.unwrap-procedure.result t.tight (placed _ c.args.block c.slot-slot.result t.tight (rw (← t.view_is) at c.requires.block) c.slot-slot.ensures) (rw (← t.view_is) at c.requires.out) c.index.ensures c.called.ensures c.unwrap-procedure.ensures in
    let called = called_is _ c.args.block c.slot-slot.result c.args.at c.index.result.now c.called.result (placed _ c.args.block c.slot-slot.result t.tight (rw (← t.view_is) at c.requires.block) c.slot-slot.ensures) (rw (← t.view_is) at c.requires.out) c.index.ensures c.called.ensures in
    let found = slice_get_read c.self.inside.bodies.items _ c.unwrap-procedure.result _ c.self.inside.bodies.ok.0 (omega (arith, there, c.self.inside.bodies.ok.0)) c.index-body.ensures in
    let i = inlines _ c.args.block c.args.at c.unwrap-procedure.result c.index-body.result.now t.tight (called ∙ c.unwrap-procedure.ensures) found in
    let spare = rw (← t.view_is) at c.requires.spare in
    omega (arith, inside, p.counted, p.size, p.blocks_end, p.behind_length, p.sizes.items, p.sizes.item_room, i.within, i.counted, spare, t.tight.room.item_room, c.close_gaps.new.items.ok.0)

pub replace_by_copy-requires-clause-small : goal.replace_by_copy-requires-clause-small
replace_by_copy-requires-clause-small c =
    let now : Inside = record c.self.inside { slots = c.close_gaps.new.slots; items = c.close_gaps.new.items; blocks_end = c.close_gaps.new.blocks_end; gaps = c.close_gaps.new.gaps; loose = c.close_gaps.new.loose } in
    let t = closed c.self.view_is c.self.invariant c.close_gaps.ensures.kept c.close_gaps.ensures.gaps c.close_gaps.ensures.order in
    let p = placed _ c.args.block c.slot-slot.result t.tight (rw (← t.view_is) at c.requires.block) c.slot-slot.ensures in
    let inside = called_inside (graph_of now) c.args.block c.args.at (rw (← t.view_is) at c.requires.out) in
    let there = called_exists _ c.args.block c.slot-slot.result c.args.at c.index.result.now c.called.result c.unwrap-procedure.result t.tight (placed _ c.args.block c.slot-slot.result t.tight (rw (← t.view_is) at c.requires.block) c.slot-slot.ensures) (rw (← t.view_is) at c.requires.out) c.index.ensures c.called.ensures c.unwrap-procedure.ensures in
    let called = called_is _ c.args.block c.slot-slot.result c.args.at c.index.result.now c.called.result (placed _ c.args.block c.slot-slot.result t.tight (rw (← t.view_is) at c.requires.block) c.slot-slot.ensures) (rw (← t.view_is) at c.requires.out) c.index.ensures c.called.ensures in
    let found = slice_get_read c.self.inside.bodies.items _ c.unwrap-procedure.result _ c.self.inside.bodies.ok.0 (omega (arith, there, c.self.inside.bodies.ok.0)) c.index-body.ensures in
    let i = inlines _ c.args.block c.args.at c.unwrap-procedure.result c.index-body.result.now t.tight (called ∙ c.unwrap-procedure.ensures) found in
    let spare = rw (← t.view_is) at c.requires.spare in
    omega (arith, inside, p.counted, p.size, p.blocks_end, p.behind_length, p.sizes.items, p.sizes.item_room, i.within, i.counted, spare, t.tight.room.item_room, c.close_gaps.new.items.ok.0)

pub overflow_sub-slot : goal.overflow_sub-slot
overflow_sub-slot c =
    let now : Inside = record c.self.inside { slots = c.close_gaps.new.slots; items = c.close_gaps.new.items; blocks_end = c.close_gaps.new.blocks_end; gaps = c.close_gaps.new.gaps; loose = c.close_gaps.new.loose } in
    let t = closed c.self.view_is c.self.invariant c.close_gaps.ensures.kept c.close_gaps.ensures.gaps c.close_gaps.ensures.order in
    let p = placed _ c.args.block c.slot-slot.result t.tight (rw (← t.view_is) at c.requires.block) c.slot-slot.ensures in
    let inside = called_inside (graph_of now) c.args.block c.args.at (rw (← t.view_is) at c.requires.out) in
    let there = called_exists _ c.args.block c.slot-slot.result c.args.at c.index.result.now c.called.result c.unwrap-procedure.result t.tight (placed _ c.args.block c.slot-slot.result t.tight (rw (← t.view_is) at c.requires.block) c.slot-slot.ensures) (rw (← t.view_is) at c.requires.out) c.index.ensures c.called.ensures c.unwrap-procedure.ensures in
    let called = called_is _ c.args.block c.slot-slot.result c.args.at c.index.result.now c.called.result (placed _ c.args.block c.slot-slot.result t.tight (rw (← t.view_is) at c.requires.block) c.slot-slot.ensures) (rw (← t.view_is) at c.requires.out) c.index.ensures c.called.ensures in
    let found = slice_get_read c.self.inside.bodies.items _ c.unwrap-procedure.result _ c.self.inside.bodies.ok.0 (omega (arith, there, c.self.inside.bodies.ok.0)) c.index-body.ensures in
    let i = inlines _ c.args.block c.args.at c.unwrap-procedure.result c.index-body.result.now t.tight (called ∙ c.unwrap-procedure.ensures) found in
    let spare = rw (← t.view_is) at c.requires.spare in
    omega (arith, inside, p.counted, p.size, p.blocks_end, p.behind_length, p.sizes.items, p.sizes.item_room, i.within, i.counted, spare, t.tight.room.item_room, c.close_gaps.new.items.ok.0)

pub overflow_add-slot : goal.overflow_add-slot
overflow_add-slot c =
    let now : Inside = record c.self.inside { slots = c.close_gaps.new.slots; items = c.close_gaps.new.items; blocks_end = c.close_gaps.new.blocks_end; gaps = c.close_gaps.new.gaps; loose = c.close_gaps.new.loose } in
    let t = closed c.self.view_is c.self.invariant c.close_gaps.ensures.kept c.close_gaps.ensures.gaps c.close_gaps.ensures.order in
    let p = placed _ c.args.block c.slot-slot.result t.tight (rw (← t.view_is) at c.requires.block) c.slot-slot.ensures in
    let inside = called_inside (graph_of now) c.args.block c.args.at (rw (← t.view_is) at c.requires.out) in
    let there = called_exists _ c.args.block c.slot-slot.result c.args.at c.index.result.now c.called.result c.unwrap-procedure.result t.tight (placed _ c.args.block c.slot-slot.result t.tight (rw (← t.view_is) at c.requires.block) c.slot-slot.ensures) (rw (← t.view_is) at c.requires.out) c.index.ensures c.called.ensures c.unwrap-procedure.ensures in
    let called = called_is _ c.args.block c.slot-slot.result c.args.at c.index.result.now c.called.result (placed _ c.args.block c.slot-slot.result t.tight (rw (← t.view_is) at c.requires.block) c.slot-slot.ensures) (rw (← t.view_is) at c.requires.out) c.index.ensures c.called.ensures in
    let found = slice_get_read c.self.inside.bodies.items _ c.unwrap-procedure.result _ c.self.inside.bodies.ok.0 (omega (arith, there, c.self.inside.bodies.ok.0)) c.index-body.ensures in
    let i = inlines _ c.args.block c.args.at c.unwrap-procedure.result c.index-body.result.now t.tight (called ∙ c.unwrap-procedure.ensures) found in
    let spare = rw (← t.view_is) at c.requires.spare in
    omega (arith, inside, p.counted, p.size, p.blocks_end, p.behind_length, p.sizes.items, p.sizes.item_room, i.within, i.counted, spare, t.tight.room.item_room, c.close_gaps.new.items.ok.0)

pub resize-requires-clause-fits : goal.resize-requires-clause-fits
resize-requires-clause-fits c =
    let now : Inside = record c.self.inside { slots = c.close_gaps.new.slots; items = c.close_gaps.new.items; blocks_end = c.close_gaps.new.blocks_end; gaps = c.close_gaps.new.gaps; loose = c.close_gaps.new.loose } in
    let t = closed c.self.view_is c.self.invariant c.close_gaps.ensures.kept c.close_gaps.ensures.gaps c.close_gaps.ensures.order in
    let p = placed _ c.args.block c.slot-slot.result t.tight (rw (← t.view_is) at c.requires.block) c.slot-slot.ensures in
    let inside = called_inside (graph_of now) c.args.block c.args.at (rw (← t.view_is) at c.requires.out) in
    let there = called_exists _ c.args.block c.slot-slot.result c.args.at c.index.result.now c.called.result c.unwrap-procedure.result t.tight (placed _ c.args.block c.slot-slot.result t.tight (rw (← t.view_is) at c.requires.block) c.slot-slot.ensures) (rw (← t.view_is) at c.requires.out) c.index.ensures c.called.ensures c.unwrap-procedure.ensures in
    let called = called_is _ c.args.block c.slot-slot.result c.args.at c.index.result.now c.called.result (placed _ c.args.block c.slot-slot.result t.tight (rw (← t.view_is) at c.requires.block) c.slot-slot.ensures) (rw (← t.view_is) at c.requires.out) c.index.ensures c.called.ensures in
    let found = slice_get_read c.self.inside.bodies.items _ c.unwrap-procedure.result _ c.self.inside.bodies.ok.0 (omega (arith, there, c.self.inside.bodies.ok.0)) c.index-body.ensures in
    let i = inlines _ c.args.block c.args.at c.unwrap-procedure.result c.index-body.result.now t.tight (called ∙ c.unwrap-procedure.ensures) found in
    let spare = rw (← t.view_is) at c.requires.spare in
    omega (arith, inside, p.counted, p.size, p.blocks_end, p.behind_length, p.sizes.items, p.sizes.item_room, i.within, i.counted, spare, t.tight.room.item_room, c.close_gaps.new.items.ok.0)

pub overflow_sub-others : goal.overflow_sub-others
overflow_sub-others c =
    let now : Inside = record c.self.inside { slots = c.close_gaps.new.slots; items = c.close_gaps.new.items; blocks_end = c.close_gaps.new.blocks_end; gaps = c.close_gaps.new.gaps; loose = c.close_gaps.new.loose } in
    let t = closed c.self.view_is c.self.invariant c.close_gaps.ensures.kept c.close_gaps.ensures.gaps c.close_gaps.ensures.order in
    let p = placed _ c.args.block c.slot-slot.result t.tight (rw (← t.view_is) at c.requires.block) c.slot-slot.ensures in
    let inside = called_inside (graph_of now) c.args.block c.args.at (rw (← t.view_is) at c.requires.out) in
    let there = called_exists _ c.args.block c.slot-slot.result c.args.at c.index.result.now c.called.result c.unwrap-procedure.result t.tight (placed _ c.args.block c.slot-slot.result t.tight (rw (← t.view_is) at c.requires.block) c.slot-slot.ensures) (rw (← t.view_is) at c.requires.out) c.index.ensures c.called.ensures c.unwrap-procedure.ensures in
    let called = called_is _ c.args.block c.slot-slot.result c.args.at c.index.result.now c.called.result (placed _ c.args.block c.slot-slot.result t.tight (rw (← t.view_is) at c.requires.block) c.slot-slot.ensures) (rw (← t.view_is) at c.requires.out) c.index.ensures c.called.ensures in
    let found = slice_get_read c.self.inside.bodies.items _ c.unwrap-procedure.result _ c.self.inside.bodies.ok.0 (omega (arith, there, c.self.inside.bodies.ok.0)) c.index-body.ensures in
    let i = inlines _ c.args.block c.args.at c.unwrap-procedure.result c.index-body.result.now t.tight (called ∙ c.unwrap-procedure.ensures) found in
    let spare = rw (← t.view_is) at c.requires.spare in
    omega (arith, inside, p.counted, p.size, p.blocks_end, p.behind_length, p.sizes.items, p.sizes.item_room, i.within, i.counted, spare, t.tight.room.item_room, c.close_gaps.new.items.ok.0)

pub overflow_add-self : goal.overflow_add-self
overflow_add-self c =
    let now : Inside = record c.self.inside { slots = c.close_gaps.new.slots; items = c.close_gaps.new.items; blocks_end = c.close_gaps.new.blocks_end; gaps = c.close_gaps.new.gaps; loose = c.close_gaps.new.loose } in
    let t = closed c.self.view_is c.self.invariant c.close_gaps.ensures.kept c.close_gaps.ensures.gaps c.close_gaps.ensures.order in
    let p = placed _ c.args.block c.slot-slot.result t.tight (rw (← t.view_is) at c.requires.block) c.slot-slot.ensures in
    let inside = called_inside (graph_of now) c.args.block c.args.at (rw (← t.view_is) at c.requires.out) in
    let there = called_exists _ c.args.block c.slot-slot.result c.args.at c.index.result.now c.called.result c.unwrap-procedure.result t.tight (placed _ c.args.block c.slot-slot.result t.tight (rw (← t.view_is) at c.requires.block) c.slot-slot.ensures) (rw (← t.view_is) at c.requires.out) c.index.ensures c.called.ensures c.unwrap-procedure.ensures in
    let called = called_is _ c.args.block c.slot-slot.result c.args.at c.index.result.now c.called.result (placed _ c.args.block c.slot-slot.result t.tight (rw (← t.view_is) at c.requires.block) c.slot-slot.ensures) (rw (← t.view_is) at c.requires.out) c.index.ensures c.called.ensures in
    let found = slice_get_read c.self.inside.bodies.items _ c.unwrap-procedure.result _ c.self.inside.bodies.ok.0 (omega (arith, there, c.self.inside.bodies.ok.0)) c.index-body.ensures in
    let i = inlines _ c.args.block c.args.at c.unwrap-procedure.result c.index-body.result.now t.tight (called ∙ c.unwrap-procedure.ensures) found in
    let spare = rw (← t.view_is) at c.requires.spare in
    omega (arith, inside, p.counted, p.size, p.blocks_end, p.behind_length, p.sizes.items, p.sizes.item_room, i.within, i.counted, spare, t.tight.room.item_room, c.close_gaps.new.items.ok.0)

pub resize-requires-clause-distinct : goal.resize-requires-clause-distinct
resize-requires-clause-distinct c =
    let t = closed c.self.view_is c.self.invariant c.close_gaps.ensures.kept c.close_gaps.ensures.gaps c.close_gaps.ensures.order in
    distinct_slots _ t.tight

pub resize-requires-clause-numbered : goal.resize-requires-clause-numbered
resize-requires-clause-numbered c =
    let t = closed c.self.view_is c.self.invariant c.close_gaps.ensures.kept c.close_gaps.ensures.gaps c.close_gaps.ensures.order in
    (placed _ c.args.block c.slot-slot.result t.tight (rw (← t.view_is) at c.requires.block) c.slot-slot.ensures).numbered

pub invariant_of-self : goal.invariant_of-self
invariant_of-self c =
    let now : Inside = record c.self.inside { slots = c.close_gaps.new.slots; items = c.close_gaps.new.items; blocks_end = c.close_gaps.new.blocks_end; gaps = c.close_gaps.new.gaps; loose = c.close_gaps.new.loose } in
    let t = closed c.self.view_is c.self.invariant c.close_gaps.ensures.kept c.close_gaps.ensures.gaps c.close_gaps.ensures.order in
    let p = placed _ c.args.block c.slot-slot.result t.tight (rw (← t.view_is) at c.requires.block) c.slot-slot.ensures in
    let inside = called_inside (graph_of now) c.args.block c.args.at (rw (← t.view_is) at c.requires.out) in
    let there = called_exists _ c.args.block c.slot-slot.result c.args.at c.index.result.now c.called.result c.unwrap-procedure.result t.tight (placed _ c.args.block c.slot-slot.result t.tight (rw (← t.view_is) at c.requires.block) c.slot-slot.ensures) (rw (← t.view_is) at c.requires.out) c.index.ensures c.called.ensures c.unwrap-procedure.ensures in
    let called = called_is _ c.args.block c.slot-slot.result c.args.at c.index.result.now c.called.result (placed _ c.args.block c.slot-slot.result t.tight (rw (← t.view_is) at c.requires.block) c.slot-slot.ensures) (rw (← t.view_is) at c.requires.out) c.index.ensures c.called.ensures in
    let found = slice_get_read c.self.inside.bodies.items _ c.unwrap-procedure.result _ c.self.inside.bodies.ok.0 (omega (arith, there, c.self.inside.bodies.ok.0)) c.index-body.ensures in
    let i = inlines _ c.args.block c.args.at c.unwrap-procedure.result c.index-body.result.now t.tight (called ∙ c.unwrap-procedure.ensures) found in
    let spare = rw (← t.view_is) at c.requires.spare in
    (replace_shows _ c.args.block c.slot-slot.result c.args.at 1 c.index-body.result.now.length (called_body (graph_of now) (called_at (graph_of now) c.args.block c.args.at)) c.resize.new.slots c.replace_by_copy.new.items _ t.tight (rw (← t.view_is) at c.requires.block) c.slot-slot.ensures (omega (arith, inside)) i.counted (omega (arith, spare)) c.resize.ensures.entries c.resize.ensures.spare (c.replace_by_copy.ensures.items ∙ ap (λ ys. replaced_items c.close_gaps.new.items.items (c.slot-slot.result.start + c.args.at) 1 ys) i.by_is) c.replace_by_copy.ensures.capacity refl (rw (← t.view_is) at c.requires.rules)).sound

pub returns-clause-graph : goal.returns-clause-graph
returns-clause-graph c =
    let now : Inside = record c.self.inside { slots = c.close_gaps.new.slots; items = c.close_gaps.new.items; blocks_end = c.close_gaps.new.blocks_end; gaps = c.close_gaps.new.gaps; loose = c.close_gaps.new.loose } in
    let t = closed c.self.view_is c.self.invariant c.close_gaps.ensures.kept c.close_gaps.ensures.gaps c.close_gaps.ensures.order in
    let p = placed _ c.args.block c.slot-slot.result t.tight (rw (← t.view_is) at c.requires.block) c.slot-slot.ensures in
    let inside = called_inside (graph_of now) c.args.block c.args.at (rw (← t.view_is) at c.requires.out) in
    let there = called_exists _ c.args.block c.slot-slot.result c.args.at c.index.result.now c.called.result c.unwrap-procedure.result t.tight (placed _ c.args.block c.slot-slot.result t.tight (rw (← t.view_is) at c.requires.block) c.slot-slot.ensures) (rw (← t.view_is) at c.requires.out) c.index.ensures c.called.ensures c.unwrap-procedure.ensures in
    let called = called_is _ c.args.block c.slot-slot.result c.args.at c.index.result.now c.called.result (placed _ c.args.block c.slot-slot.result t.tight (rw (← t.view_is) at c.requires.block) c.slot-slot.ensures) (rw (← t.view_is) at c.requires.out) c.index.ensures c.called.ensures in
    let found = slice_get_read c.self.inside.bodies.items _ c.unwrap-procedure.result _ c.self.inside.bodies.ok.0 (omega (arith, there, c.self.inside.bodies.ok.0)) c.index-body.ensures in
    let i = inlines _ c.args.block c.args.at c.unwrap-procedure.result c.index-body.result.now t.tight (called ∙ c.unwrap-procedure.ensures) found in
    let spare = rw (← t.view_is) at c.requires.spare in
    (replace_shows _ c.args.block c.slot-slot.result c.args.at 1 c.index-body.result.now.length (called_body (graph_of now) (called_at (graph_of now) c.args.block c.args.at)) c.resize.new.slots c.replace_by_copy.new.items _ t.tight (rw (← t.view_is) at c.requires.block) c.slot-slot.ensures (omega (arith, inside)) i.counted (omega (arith, spare)) c.resize.ensures.entries c.resize.ensures.spare (c.replace_by_copy.ensures.items ∙ ap (λ ys. replaced_items c.close_gaps.new.items.items (c.slot-slot.result.start + c.args.at) 1 ys) i.by_is) c.replace_by_copy.ensures.capacity refl (rw (← t.view_is) at c.requires.rules)).is
    ∙ ap (λ v. inlined v.graph c.args.block c.args.at) t.view_is

pub returns-clause-spare : goal.returns-clause-spare
returns-clause-spare c =
    let now : Inside = record c.self.inside { slots = c.close_gaps.new.slots; items = c.close_gaps.new.items; blocks_end = c.close_gaps.new.blocks_end; gaps = c.close_gaps.new.gaps; loose = c.close_gaps.new.loose } in
    let t = closed c.self.view_is c.self.invariant c.close_gaps.ensures.kept c.close_gaps.ensures.gaps c.close_gaps.ensures.order in
    let p = placed _ c.args.block c.slot-slot.result t.tight (rw (← t.view_is) at c.requires.block) c.slot-slot.ensures in
    let inside = called_inside (graph_of now) c.args.block c.args.at (rw (← t.view_is) at c.requires.out) in
    let there = called_exists _ c.args.block c.slot-slot.result c.args.at c.index.result.now c.called.result c.unwrap-procedure.result t.tight (placed _ c.args.block c.slot-slot.result t.tight (rw (← t.view_is) at c.requires.block) c.slot-slot.ensures) (rw (← t.view_is) at c.requires.out) c.index.ensures c.called.ensures c.unwrap-procedure.ensures in
    let called = called_is _ c.args.block c.slot-slot.result c.args.at c.index.result.now c.called.result (placed _ c.args.block c.slot-slot.result t.tight (rw (← t.view_is) at c.requires.block) c.slot-slot.ensures) (rw (← t.view_is) at c.requires.out) c.index.ensures c.called.ensures in
    let found = slice_get_read c.self.inside.bodies.items _ c.unwrap-procedure.result _ c.self.inside.bodies.ok.0 (omega (arith, there, c.self.inside.bodies.ok.0)) c.index-body.ensures in
    let i = inlines _ c.args.block c.args.at c.unwrap-procedure.result c.index-body.result.now t.tight (called ∙ c.unwrap-procedure.ensures) found in
    let spare = rw (← t.view_is) at c.requires.spare in
    let items = replace_spare _ c.args.block c.slot-slot.result c.args.at 1 (called_body (graph_of now) (called_at (graph_of now) c.args.block c.args.at)) c.replace_by_copy.new.items.items t.tight (rw (← t.view_is) at c.requires.block) c.slot-slot.ensures (omega (arith, inside)) (omega (arith, spare)) (c.replace_by_copy.ensures.items ∙ ap (λ ys. replaced_items c.close_gaps.new.items.items (c.slot-slot.result.start + c.args.at) 1 ys) i.by_is) in
    same_room _ _ c.resize.ensures.spare items refl
    ∙ ap (λ v. record v.spare { items = v.spare.items + 1 - length (called_body v.graph (called_at v.graph c.args.block c.args.at)) }) t.view_is
