use Rattle.std.proofs.Common.{◌≡◌, ◌+◌, ◌≤◌, ◌<◌, ◌^◌, length, take, drop, vec_capacity, ap, ◌∙◌, refl, arith}
use Rattle.sq_graph.specs.declared.graph.Graph.TheInside.{Inside}
use Rattle.sq_graph.specs.Room.{GraphAndRoom}
use Rattle.sq_graph.proofs.Sizes.{sizes}
use Rattle.sq_graph.proofs.Tight.{closed}
use Rattle.sq_graph.proofs.Loosening.{more_room, loosens}
use Rattle.sq_graph.proofs.graph.Graph.loosen.Goals as goal

-- NO MEMORY

pub invariant_of-self : goal.invariant_of-self
invariant_of-self c =
    let now : Inside = record c.self.inside { slots = c.close_gaps.new.slots; items = c.close_gaps.new.items; blocks_end = c.close_gaps.new.blocks_end; gaps = c.close_gaps.new.gaps; loose = c.close_gaps.new.loose } in
    let t = closed c.self.view_is c.self.invariant c.close_gaps.ensures.kept c.close_gaps.ensures.gaps c.close_gaps.ensures.order in
    (more_room now c.reserve.new.self c.close_gaps.new.items t.tight.sound c.close_gaps.ensures.order refl (omega arith)).sound

pub returns-in_err-reserve-clause-kept : goal.returns-in_err-reserve-clause-kept
returns-in_err-reserve-clause-kept c =
    let t = closed c.self.view_is c.self.invariant c.close_gaps.ensures.kept c.close_gaps.ensures.gaps c.close_gaps.ensures.order in
    record {
      blocks = omega (arith, ap (λ (w : GraphAndRoom). w.spare.blocks) t.view_is);
      items = omega (arith, ap (λ (w : GraphAndRoom). w.spare.items) t.view_is);
      procedures = omega (arith, ap (λ (w : GraphAndRoom). w.spare.procedures) t.view_is);
    }

pub invariant_of-self-in_err-self-inside : goal.invariant_of-self-in_err-self-inside
invariant_of-self-in_err-self-inside c =
    let now : Inside = record c.self.inside { slots = c.close_gaps.new.slots; items = c.close_gaps.new.items; blocks_end = c.close_gaps.new.blocks_end; gaps = c.close_gaps.new.gaps; loose = c.close_gaps.new.loose } in
    let t = closed c.self.view_is c.self.invariant c.close_gaps.ensures.kept c.close_gaps.ensures.gaps c.close_gaps.ensures.order in
    (more_room now c.reserve.new.self c.reserve-2.new.items t.tight.sound c.close_gaps.ensures.order c.reserve-2.ensures.items c.reserve-2.ensures.capacity).sound

pub returns-in_err-self-inside-clause-kept : goal.returns-in_err-self-inside-clause-kept
returns-in_err-self-inside-clause-kept c =
    let t = closed c.self.view_is c.self.invariant c.close_gaps.ensures.kept c.close_gaps.ensures.gaps c.close_gaps.ensures.order in
    record {
      blocks = omega (arith, ap (λ (w : GraphAndRoom). w.spare.blocks) t.view_is);
      items = omega (arith, ap (λ (w : GraphAndRoom). w.spare.items) t.view_is, ap length c.reserve-2.ensures.items);
      procedures = omega (arith, ap (λ (w : GraphAndRoom). w.spare.procedures) t.view_is);
    }

-- A HOLE

pub overflow_cast-len : goal.overflow_cast-len
overflow_cast-len c =
    let now : Inside = record c.self.inside { slots = c.close_gaps.new.slots; items = c.close_gaps.new.items; blocks_end = c.close_gaps.new.blocks_end; gaps = c.close_gaps.new.gaps; loose = c.close_gaps.new.loose } in
    let t = closed c.self.view_is c.self.invariant c.close_gaps.ensures.kept c.close_gaps.ensures.gaps c.close_gaps.ensures.order in
    let size = sizes now t.tight.sound in
    omega (arith, c.len.ensures, c.close_gaps.new.items.ok.0, size.items, size.item_room)

pub hole-hole-requires-clause-all : goal.hole-hole-requires-clause-all
hole-hole-requires-clause-all c =
    let now : Inside = record c.self.inside { slots = c.close_gaps.new.slots; items = c.close_gaps.new.items; blocks_end = c.close_gaps.new.blocks_end; gaps = c.close_gaps.new.gaps; loose = c.close_gaps.new.loose } in
    let t = closed c.self.view_is c.self.invariant c.close_gaps.ensures.kept c.close_gaps.ensures.gaps c.close_gaps.ensures.order in
    let size = sizes now t.tight.sound in
    omega (arith, c.len.ensures, c.close_gaps.new.items.ok.0, size.items, size.item_room)

pub invariant_of-self-2 : goal.invariant_of-self-2
invariant_of-self-2 c =
    let now : Inside = record c.self.inside { slots = c.close_gaps.new.slots; items = c.close_gaps.new.items; blocks_end = c.close_gaps.new.blocks_end; gaps = c.close_gaps.new.gaps; loose = c.close_gaps.new.loose } in
    let t = closed c.self.view_is c.self.invariant c.close_gaps.ensures.kept c.close_gaps.ensures.gaps c.close_gaps.ensures.order in
    let size = sizes now t.tight.sound in
    let room = c.in_ok-self-inside.ensures.ok in
    let long : length c.open.new.items.items ≡ length c.close_gaps.new.items.items + c.hole-hole.result = omega (arith, c.open.ensures.len, ap length c.reserve-2.ensures.items) in
    let within : length c.open.new.items.items ≤ c.in_ok-self-inside.field-0 = omega (arith, room, long, c.close_gaps.new.items.ok.0) in
    let capacity : c.in_ok-self-inside.field-0 ≤ vec_capacity c.open.new.items = omega (arith, c.in_ok-self-inside.ensures.room t.tight.sound.room.item_room, c.open.ensures.capacity) in
    let small : c.in_ok-self-inside.field-0 < 2 ^ 29 = omega (arith, room, size.item_room, c.hole-hole.ensures.fits, c.len.ensures) in
    let shows = loosens now c.reserve.new.self c.open.new.items c.hole-hole.result c.in_ok-self-inside.field-0 t.tight.sound (omega (arith, c.in_ok-reserve.ensures.ok)) (c.open.ensures.ahead ∙ ap (λ xs. take c.close_gaps.new.blocks_end xs) c.reserve-2.ensures.items) (c.open.ensures.behind ∙ ap (λ xs. drop c.close_gaps.new.blocks_end xs) c.reserve-2.ensures.items) long within capacity small in
    shows.sound

pub returns-clause-graph : goal.returns-clause-graph
returns-clause-graph c =
    let now : Inside = record c.self.inside { slots = c.close_gaps.new.slots; items = c.close_gaps.new.items; blocks_end = c.close_gaps.new.blocks_end; gaps = c.close_gaps.new.gaps; loose = c.close_gaps.new.loose } in
    let t = closed c.self.view_is c.self.invariant c.close_gaps.ensures.kept c.close_gaps.ensures.gaps c.close_gaps.ensures.order in
    let size = sizes now t.tight.sound in
    let room = c.in_ok-self-inside.ensures.ok in
    let long : length c.open.new.items.items ≡ length c.close_gaps.new.items.items + c.hole-hole.result = omega (arith, c.open.ensures.len, ap length c.reserve-2.ensures.items) in
    let within : length c.open.new.items.items ≤ c.in_ok-self-inside.field-0 = omega (arith, room, long, c.close_gaps.new.items.ok.0) in
    let capacity : c.in_ok-self-inside.field-0 ≤ vec_capacity c.open.new.items = omega (arith, c.in_ok-self-inside.ensures.room t.tight.sound.room.item_room, c.open.ensures.capacity) in
    let small : c.in_ok-self-inside.field-0 < 2 ^ 29 = omega (arith, room, size.item_room, c.hole-hole.ensures.fits, c.len.ensures) in
    let shows = loosens now c.reserve.new.self c.open.new.items c.hole-hole.result c.in_ok-self-inside.field-0 t.tight.sound (omega (arith, c.in_ok-reserve.ensures.ok)) (c.open.ensures.ahead ∙ ap (λ xs. take c.close_gaps.new.blocks_end xs) c.reserve-2.ensures.items) (c.open.ensures.behind ∙ ap (λ xs. drop c.close_gaps.new.blocks_end xs) c.reserve-2.ensures.items) long within capacity small in
    shows.is ∙ ap (λ v. v.graph) t.view_is

pub returns-clause-kept : goal.returns-clause-kept
returns-clause-kept c =
    let now : Inside = record c.self.inside { slots = c.close_gaps.new.slots; items = c.close_gaps.new.items; blocks_end = c.close_gaps.new.blocks_end; gaps = c.close_gaps.new.gaps; loose = c.close_gaps.new.loose } in
    let t = closed c.self.view_is c.self.invariant c.close_gaps.ensures.kept c.close_gaps.ensures.gaps c.close_gaps.ensures.order in
    let size = sizes now t.tight.sound in
    let room = c.in_ok-self-inside.ensures.ok in
    let long : length c.open.new.items.items ≡ length c.close_gaps.new.items.items + c.hole-hole.result = omega (arith, c.open.ensures.len, ap length c.reserve-2.ensures.items) in
    record {
      blocks = omega (arith, ap (λ (w : GraphAndRoom). w.spare.blocks) t.view_is);
      items = omega (arith, ap (λ (w : GraphAndRoom). w.spare.items) t.view_is, room, long);
      procedures = omega (arith, ap (λ (w : GraphAndRoom). w.spare.procedures) t.view_is);
    }
