use Rattle.std.proofs.Common.{◌≡◌, ◌∙◌, ◌++◌, ◌-◌, List, length, take, drop, refl, ap, arith, length-append}
use Rattle.std.proofs.lemmas.List.{take_all, length-take, length-drop}
use Rattle.sq_graph.specs.declared.graph.Graph.TheInside.{Inside}
use Rattle.sq_graph.specs.declared.item.Item.{Item}
use Rattle.sq_graph.specs.declared.slot.Body.{Body}
use Rattle.sq_graph.specs.Blocks.{items_of_blocks, items_of_bodies}
use Rattle.sq_graph.specs.Slots.{slots_of, without_starts}
use Rattle.sq_graph.specs.Room.{GraphAndRoom}
use Rattle.sq_graph.proofs.CallWrites.{met_blocks_fewer, copy_shows}
use Rattle.sq_graph.proofs.Held.{links_shown}
use Rattle.sq_graph.proofs.Sizes.{sizes}
use Rattle.sq_graph.proofs.graph.Graph.with_calls.Goals as goal

pub call_in_blocks-requires-clause-slots : goal.call_in_blocks-requires-clause-slots
call_in_blocks-requires-clause-slots c =
    ap (λ slots. without_starts slots.entries) c.in-Ok.ensures
    ∙ links_shown c.self.inside c.self.invariant
    ∙ ap (λ v. slots_of v.graph.blocks) c.self.view_is

pub overflow_cast-blocks_end : goal.overflow_cast-blocks_end
overflow_cast-blocks_end c =
    omega (
      arith,
      c.len-blocks_end.ensures,
      c.in_ok-items.items.ok.0,
      ap (λ (is : List Item). length is) c.in_ok-items.ensures.items,
      met_blocks_fewer c.args.fates.now c.args.self.now.graph.blocks,
      c.learn.ensures.small.items,
      length-append (items_of_blocks c.args.self.now.graph.blocks) (items_of_bodies c.args.self.now.graph.procedures),
    )

pub overflow_cast-item_room : goal.overflow_cast-item_room
overflow_cast-item_room c =
    let size = sizes c.self.inside c.self.invariant in
    let rest = drop c.self.inside.blocks_end c.deref.result.now in
    omega (
      arith,
      c.len-item_room.ensures,
      c.extend_from_slice.new.self.ok.0,
      ap (λ (is : List Item). length is) c.in_ok-extend_from_slice.ensures.items,
      length-append c.in_ok-items.items.items (take (length c.deref.result.now - c.self.inside.blocks_end) (drop c.self.inside.blocks_end c.deref.result.now)),
      length-take (length c.deref.result.now - c.self.inside.blocks_end) (drop c.self.inside.blocks_end c.deref.result.now),
      ap (λ (is : List Item). length is) c.deref.ensures.value,
      size.items,
      size.item_room,
      ap (λ (is : List Item). length is) c.in_ok-items.ensures.items,
      met_blocks_fewer c.args.fates.now c.args.self.now.graph.blocks,
      c.learn.ensures.small.items,
      length-append (items_of_blocks c.args.self.now.graph.blocks) (items_of_bodies c.args.self.now.graph.procedures),
    )

pub overflow_cast-body_room : goal.overflow_cast-body_room
overflow_cast-body_room c =
    omega (
      arith,
      c.len-body_room.ensures,
      c.in_ok-bodies.bodies.ok.0,
      ap (λ (bs : List Body). length bs) (c.in_ok-bodies.ensures.items ∙ c.deref-3.ensures.value),
      (sizes c.self.inside c.self.invariant).counted,
      ap (λ (v : GraphAndRoom). length v.graph.procedures) c.self.view_is,
      c.learn.ensures.small.procedures,
    )

pub invariant_of-result : goal.invariant_of-result
invariant_of-result c =
    let new : Inside = record {
      slots = c.call_in_blocks.new.slots;
      items = c.extend_from_slice.new.self;
      blocks_end = c.len-blocks_end.result;
      gaps = 0;
      loose = c.in_order.result;
      entry = c.self.inside.entry;
      code_words = c.in_ok-code_words.code_words;
      bodies = c.in_ok-bodies.bodies;
      item_room = c.len-item_room.result;
      body_room = c.len-body_room.result;
    } in
    let rest : take (length c.deref.result.now - c.self.inside.blocks_end) (drop c.self.inside.blocks_end c.deref.result.now) ≡ drop c.self.inside.blocks_end c.self.inside.items.items =
    take_all (length c.deref.result.now - c.self.inside.blocks_end) (drop c.self.inside.blocks_end c.deref.result.now) (omega (arith, length-drop c.self.inside.blocks_end c.deref.result.now)) ∙ ap (λ is. drop c.self.inside.blocks_end is) c.deref.ensures.value in
    (copy_shows c.self.inside new c.args.self.now c.args.fates.now c.in_ok-items.items.items c.self.view_is c.self.invariant c.requires.rules
    (c.call_in_blocks.ensures.spare ∙ ap (λ slots. slots.spare) c.in-Ok.ensures) c.in_ok-items.ensures.entries c.in_ok-items.ensures.items
    (c.in_ok-extend_from_slice.ensures.items ∙ ap (λ is. c.in_ok-items.items.items ++ is) rest) (c.len-blocks_end.ensures ∙ c.in_ok-items.items.ok.0) refl c.in_order.ensures refl
    (c.in_ok-code_words.ensures.items ∙ c.deref-2.ensures.value) (c.in_ok-bodies.ensures.items ∙ c.deref-3.ensures.value)
    (c.len-item_room.ensures ∙ c.extend_from_slice.new.self.ok.0) (c.len-body_room.ensures ∙ c.in_ok-bodies.bodies.ok.0)).sound

pub returns-clause-graph : goal.returns-clause-graph
returns-clause-graph c =
    let new : Inside = record {
      slots = c.call_in_blocks.new.slots;
      items = c.extend_from_slice.new.self;
      blocks_end = c.len-blocks_end.result;
      gaps = 0;
      loose = c.in_order.result;
      entry = c.self.inside.entry;
      code_words = c.in_ok-code_words.code_words;
      bodies = c.in_ok-bodies.bodies;
      item_room = c.len-item_room.result;
      body_room = c.len-body_room.result;
    } in
    let rest : take (length c.deref.result.now - c.self.inside.blocks_end) (drop c.self.inside.blocks_end c.deref.result.now) ≡ drop c.self.inside.blocks_end c.self.inside.items.items =
    take_all (length c.deref.result.now - c.self.inside.blocks_end) (drop c.self.inside.blocks_end c.deref.result.now) (omega (arith, length-drop c.self.inside.blocks_end c.deref.result.now)) ∙ ap (λ is. drop c.self.inside.blocks_end is) c.deref.ensures.value in
    (copy_shows c.self.inside new c.args.self.now c.args.fates.now c.in_ok-items.items.items c.self.view_is c.self.invariant c.requires.rules
    (c.call_in_blocks.ensures.spare ∙ ap (λ slots. slots.spare) c.in-Ok.ensures) c.in_ok-items.ensures.entries c.in_ok-items.ensures.items
    (c.in_ok-extend_from_slice.ensures.items ∙ ap (λ is. c.in_ok-items.items.items ++ is) rest) (c.len-blocks_end.ensures ∙ c.in_ok-items.items.ok.0) refl c.in_order.ensures refl
    (c.in_ok-code_words.ensures.items ∙ c.deref-2.ensures.value) (c.in_ok-bodies.ensures.items ∙ c.deref-3.ensures.value)
    (c.len-item_room.ensures ∙ c.extend_from_slice.new.self.ok.0) (c.len-body_room.ensures ∙ c.in_ok-bodies.bodies.ok.0)).is
