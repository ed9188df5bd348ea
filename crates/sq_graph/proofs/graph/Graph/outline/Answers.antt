use Rattle.std.proofs.Common.{◌≡◌, ◌∙◌, ◌+◌, ◌-◌, ◌≤◌, length, ap, sym, refl, arith}
use Rattle.std.proofs.lemmas.List.{length_push}
use Rattle.sq_graph.specs.Blocks.{block_items}
use Rattle.sq_graph.specs.Operations.{outlined}
use Rattle.sq_graph.proofs.SlotReads.{has_slot, reads}
use Rattle.sq_graph.proofs.Sizes.{sizes, same_room}
use Rattle.sq_graph.proofs.Tight.{still}
use Rattle.sq_graph.proofs.ProcedureWrites.{outline_shows, outline_spare}
use Rattle.sq_graph.proofs.graph.Graph.outline.Goals as goal

pub make_room-requires-clause-gaps : goal.make_room-requires-clause-gaps
make_room-requires-clause-gaps c = c.self.invariant.gaps

pub make_room-requires-clause-within : goal.make_room-requires-clause-within
make_room-requires-clause-within c = c.self.invariant.room.items

pub make_room-requires-clause-spare : goal.make_room-requires-clause-spare
make_room-requires-clause-spare c =
    let room = c.self.invariant.room.items in
    let spare = rw (← c.self.view_is) at c.requires.spare_items in
    omega (arith, room, spare)

pub slot-slot-requires : goal.slot-slot-requires
slot-slot-requires c =
    let s = still c.self.view_is c.self.invariant c.make_room.ensures.kept in
    has_slot _ c.args.block s.sound (rw (← s.view_is) at c.requires.block)

pub overflow_add-slot : goal.overflow_add-slot
overflow_add-slot c =
    let s = still c.self.view_is c.self.invariant c.make_room.ensures.kept in
    let read = reads _ c.args.block c.slot-slot.result s.sound c.slot-slot.ensures in
    let items = ap (λ o. length (block_items o)) read.is in
    let fits = rw (← s.view_is) at c.requires.there in
    let size = sizes _ s.sound in
    omega (arith, fits, items, read.length_is, read.within, size.items, size.item_room)

pub append_copy-requires-clause-there : goal.append_copy-requires-clause-there
append_copy-requires-clause-there c =
    let s = still c.self.view_is c.self.invariant c.make_room.ensures.kept in
    let read = reads _ c.args.block c.slot-slot.result s.sound c.slot-slot.ensures in
    let items = ap (λ o. length (block_items o)) read.is in
    let fits = rw (← s.view_is) at c.requires.there in
    let size = sizes _ s.sound in
    omega (arith, fits, items, read.length_is, read.within, c.make_room.new.items.ok.0)

pub invariant_of-self : goal.invariant_of-self
invariant_of-self c =
    let s = still c.self.view_is c.self.invariant c.make_room.ensures.kept in
    (outline_shows _ c.args.block c.slot-slot.result c.args.at c.args.count c.args.link _ c.append_copy.new.items c.push_reserved.new.self s.sound c.slot-slot.ensures (rw (← s.view_is) at c.requires.there) c.make_room.ensures.fits (rw (← s.view_is) at c.requires.spare_procedures) (ap (λ n. n - c.make_room.new.blocks_end) (c.len.ensures ∙ c.make_room.new.items.ok.0)) c.append_copy.ensures.items c.append_copy.ensures.capacity c.push_reserved.ensures.items c.push_reserved.ensures.capacity (rw (← s.view_is) at c.requires.rules)).sound

pub returns-clause-number : goal.returns-clause-number
returns-clause-number c =
    c.len-number.ensures ∙ c.self.inside.bodies.ok.0 ∙ sym (sizes c.self.inside c.self.invariant).counted ∙ ap (λ v. length v.graph.procedures) c.self.view_is

pub returns-clause-graph : goal.returns-clause-graph
returns-clause-graph c =
    let s = still c.self.view_is c.self.invariant c.make_room.ensures.kept in
    (outline_shows _ c.args.block c.slot-slot.result c.args.at c.args.count c.args.link _ c.append_copy.new.items c.push_reserved.new.self s.sound c.slot-slot.ensures (rw (← s.view_is) at c.requires.there) c.make_room.ensures.fits (rw (← s.view_is) at c.requires.spare_procedures) (ap (λ n. n - c.make_room.new.blocks_end) (c.len.ensures ∙ c.make_room.new.items.ok.0)) c.append_copy.ensures.items c.append_copy.ensures.capacity c.push_reserved.ensures.items c.push_reserved.ensures.capacity (rw (← s.view_is) at c.requires.rules)).is
    ∙ ap (λ v. outlined v.graph c.args.block c.args.at c.args.count c.args.link) s.view_is

pub returns-clause-spare : goal.returns-clause-spare
returns-clause-spare c =
    let s = still c.self.view_is c.self.invariant c.make_room.ensures.kept in
    let read = reads _ c.args.block c.slot-slot.result s.sound c.slot-slot.ensures in
    let items = ap (λ o. length (block_items o)) read.is in
    let fits = rw (← s.view_is) at c.requires.there in
    let size = sizes _ s.sound in
    let there : c.args.count + (c.slot-slot.result.start + c.args.at) ≤ length c.make_room.new.items.items = omega (arith, fits, items, read.length_is, read.within) in
    let long = outline_spare c.make_room.new.items.items c.append_copy.new.items.items c.slot-slot.result.start c.args.at c.args.count there c.append_copy.ensures.items in
    let bodies : length c.push_reserved.new.self.items ≡ length c.self.inside.bodies.items + 1 = ap (λ bs. length bs) c.push_reserved.ensures.items ∙ length_push c.self.inside.bodies.items _ in
    same_room _ _ refl (omega (arith, long)) (omega (arith, bodies))
    ∙ ap (λ v. record v.spare { items = v.spare.items - c.args.count; procedures = v.spare.procedures - 1 }) s.view_is
