use Rattle.std.proofs.Common.{◌∙◌, length, drop, ap, refl, arith}
use Rattle.sq_graph.specs.declared.graph.Graph.TheInside.{Inside}
use Rattle.sq_graph.specs.Parts.{length_of_blocks}
use Rattle.sq_graph.proofs.FromParts.{parts_show, all_items_of_parts, length-part_slots, length-blocks_of_parts, length-procedures_of_parts, length-part_bodies}
use Rattle.sq_graph.proofs.graph.Graph.from_parts.Goals as goal

pub slots_of-requires : goal.slots_of-requires
slots_of-requires c = omega (arith, c.requires.small.items, c.requires.lengths, ap (λ is. length is) (all_items_of_parts c.args.parts.now.blocks.now c.args.parts.now.items.now c.args.parts.now.entry c.args.parts.now.code_words.now c.args.parts.now.procedures.now c.requires.lengths))

pub from_values-requires : goal.from_values-requires
from_values-requires c = omega (arith, c.requires.small.blocks, ap length c.deref.ensures.value, ap length c.in_ok-blocks.ensures.slots, length-part_slots 0 c.args.parts.now.blocks.now, length-blocks_of_parts 0 c.args.parts.now.blocks.now c.args.parts.now.items.now)

pub bodies-requires : goal.bodies-requires
bodies-requires c = omega (arith, c.requires.small.items, c.requires.lengths, ap (λ is. length is) (all_items_of_parts c.args.parts.now.blocks.now c.args.parts.now.items.now c.args.parts.now.entry c.args.parts.now.code_words.now c.args.parts.now.procedures.now c.requires.lengths))

pub overflow_cast-item_room : goal.overflow_cast-item_room
overflow_cast-item_room c =
    omega (arith, c.requires.small.items, ap (λ is. length is) (all_items_of_parts c.args.parts.now.blocks.now c.args.parts.now.items.now c.args.parts.now.entry c.args.parts.now.code_words.now c.args.parts.now.procedures.now c.requires.lengths), c.len-item_room.ensures, c.in_ok-items.items.ok.0, ap (λ is. length is) c.in_ok-items.ensures.items)

pub overflow_cast-body_room : goal.overflow_cast-body_room
overflow_cast-body_room c =
    omega (arith, c.requires.small.procedures, c.len-body_room.ensures, c.in_ok-bodies.bodies.ok.0, ap (λ bs. length bs) c.in_ok-bodies.ensures, length-part_bodies 0 c.args.parts.now.procedures.now, length-procedures_of_parts c.args.parts.now.procedures.now (drop (length_of_blocks c.args.parts.now.blocks.now) c.args.parts.now.items.now))

pub invariant_of-result : goal.invariant_of-result
invariant_of-result c =
    let new : Inside = record {
      slots = c.in-Ok.slots;
      items = c.in_ok-items.items;
      blocks_end = c.in_ok-blocks.blocks_end;
      gaps = 0;
      loose = c.in_order.result;
      entry = c.args.parts.now.entry;
      code_words = c.in_ok-code_words.code_words;
      bodies = c.in_ok-bodies.bodies;
      item_room = c.len-item_room.result;
      body_room = c.len-body_room.result;
    } in
    let values = c.deref.ensures.value ∙ c.in_ok-blocks.ensures.slots in
    (parts_show c.args.parts.now.blocks.now c.args.parts.now.items.now c.args.parts.now.entry c.args.parts.now.code_words.now c.args.parts.now.procedures.now new c.requires.lengths c.requires.rules c.requires.small
    (rw (← values) c.in-Ok.ensures.entries) c.in-Ok.ensures.spare c.in_ok-items.ensures.items c.in_ok-blocks.ensures.length refl c.in_order.ensures refl c.in_ok-code_words.ensures.items c.in_ok-bodies.ensures
    (c.len-item_room.ensures ∙ c.in_ok-items.items.ok.0) (c.len-body_room.ensures ∙ c.in_ok-bodies.bodies.ok.0)).sound

pub returns-clause-graph : goal.returns-clause-graph
returns-clause-graph c =
    let new : Inside = record {
      slots = c.in-Ok.slots;
      items = c.in_ok-items.items;
      blocks_end = c.in_ok-blocks.blocks_end;
      gaps = 0;
      loose = c.in_order.result;
      entry = c.args.parts.now.entry;
      code_words = c.in_ok-code_words.code_words;
      bodies = c.in_ok-bodies.bodies;
      item_room = c.len-item_room.result;
      body_room = c.len-body_room.result;
    } in
    let values = c.deref.ensures.value ∙ c.in_ok-blocks.ensures.slots in
    (parts_show c.args.parts.now.blocks.now c.args.parts.now.items.now c.args.parts.now.entry c.args.parts.now.code_words.now c.args.parts.now.procedures.now new c.requires.lengths c.requires.rules c.requires.small
    (rw (← values) c.in-Ok.ensures.entries) c.in-Ok.ensures.spare c.in_ok-items.ensures.items c.in_ok-blocks.ensures.length refl c.in_order.ensures refl c.in_ok-code_words.ensures.items c.in_ok-bodies.ensures
    (c.len-item_room.ensures ∙ c.in_ok-items.items.ok.0) (c.len-body_room.ensures ∙ c.in_ok-bodies.bodies.ok.0)).is
