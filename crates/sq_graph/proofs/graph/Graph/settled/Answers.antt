use Rattle.std.proofs.Common.{◌∙◌, refl, ap, arith}
use Rattle.sq_graph.specs.Slots.{slots_of, without_starts}
use Rattle.sq_graph.specs.declared.graph.Graph.TheInside.{Inside}
use Rattle.sq_graph.proofs.Held.{links_shown}
use Rattle.sq_graph.proofs.Settling.{length-bodies, settled_shows}
use Rattle.sq_graph.proofs.graph.Graph.settled.Goals as goal

pub settle_blocks-requires-clause-slots : goal.settle_blocks-requires-clause-slots
settle_blocks-requires-clause-slots c =
    ap (λ slots. without_starts slots.entries) c.in-Ok.ensures
    ∙ links_shown c.self.inside c.self.invariant
    ∙ ap (λ v. slots_of v.graph.blocks) c.self.view_is

pub overflow_cast-body_room : goal.overflow_cast-body_room
overflow_cast-body_room c =
    omega (arith, c.len-body_room.ensures, c.in_ok-bodies.bodies.ok.0, c.learn.ensures.small.procedures, length-bodies c.args.fates.now c.args.self.now.graph.procedures c.in_ok-bodies.bodies.items c.in_ok-bodies.ensures.bodies)

pub invariant_of-result : goal.invariant_of-result
invariant_of-result c =
    let new : Inside = record {
      slots = c.settle_blocks.new.slots;
      items = c.staying_bodies.new.items;
      blocks_end = c.len-blocks_end.result;
      gaps = 0;
      loose = c.in_order.result;
      entry = c.self.inside.entry;
      code_words = c.in_ok-code_words.code_words;
      bodies = c.in_ok-bodies.bodies;
      item_room = c.len-item_room.result;
      body_room = c.len-body_room.result;
    } in
    let spare = c.settle_blocks.ensures.spare ∙ ap (λ slots. slots.spare) c.in-Ok.ensures ∙ ap (λ v. v.spare.blocks) c.self.view_is in
    (settled_shows new c.args.fates.now c.args.self.now.graph c.in_ok-items.items.items c.requires.rules c.requires.small (omega (arith, c.learn.ensures.small.blocks, spare)) (omega (arith, c.learn.ensures.small.procedures))
    c.in_ok-items.ensures.entries c.in_ok-items.ensures.items c.in_ok-bodies.ensures.items (c.len-blocks_end.ensures ∙ c.in_ok-items.items.ok.0) refl c.in_order.ensures (ap (λ v. v.graph.entry) c.self.view_is)
    (c.in_ok-code_words.ensures.items ∙ c.deref-2.ensures.value ∙ ap (λ v. v.graph.code_words) c.self.view_is) c.in_ok-bodies.ensures.bodies
    (c.len-item_room.ensures ∙ c.staying_bodies.new.items.ok.0) (c.len-body_room.ensures ∙ c.in_ok-bodies.bodies.ok.0)).sound

pub returns-clause-graph : goal.returns-clause-graph
returns-clause-graph c =
    let new : Inside = record {
      slots = c.settle_blocks.new.slots;
      items = c.staying_bodies.new.items;
      blocks_end = c.len-blocks_end.result;
      gaps = 0;
      loose = c.in_order.result;
      entry = c.self.inside.entry;
      code_words = c.in_ok-code_words.code_words;
      bodies = c.in_ok-bodies.bodies;
      item_room = c.len-item_room.result;
      body_room = c.len-body_room.result;
    } in
    let spare = c.settle_blocks.ensures.spare ∙ ap (λ slots. slots.spare) c.in-Ok.ensures ∙ ap (λ v. v.spare.blocks) c.self.view_is in
    (settled_shows new c.args.fates.now c.args.self.now.graph c.in_ok-items.items.items c.requires.rules c.requires.small (omega (arith, c.learn.ensures.small.blocks, spare)) (omega (arith, c.learn.ensures.small.procedures))
    c.in_ok-items.ensures.entries c.in_ok-items.ensures.items c.in_ok-bodies.ensures.items (c.len-blocks_end.ensures ∙ c.in_ok-items.items.ok.0) refl c.in_order.ensures (ap (λ v. v.graph.entry) c.self.view_is)
    (c.in_ok-code_words.ensures.items ∙ c.deref-2.ensures.value ∙ ap (λ v. v.graph.code_words) c.self.view_is) c.in_ok-bodies.ensures.bodies
    (c.len-item_room.ensures ∙ c.staying_bodies.new.items.ok.0) (c.len-body_room.ensures ∙ c.in_ok-bodies.bodies.ok.0)).is
