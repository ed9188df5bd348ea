use Rattle.std.proofs.Common.{◌≡◌, ◌∙◌, ◌+◌, ◌-◌, length, ap, refl, arith}
use Rattle.sq_graph.specs.Operations.{replaced}
use Rattle.sq_graph.proofs.Changes.{distinct_slots}
use Rattle.sq_graph.proofs.SlotReads.{has_slot, reads}
use Rattle.sq_graph.proofs.Sizes.{sizes, same_room}
use Rattle.sq_graph.proofs.BlockWrites.{replace_less_shows, shrunk_long}
use Rattle.sq_graph.specs.Blocks.{block_items}
use Rattle.sq_graph.proofs.ItemWrites.{placed, replace_shows, replace_spare}
use Rattle.sq_graph.proofs.Tight.{still, closed}
use Rattle.sq_graph.proofs.graph.Graph.replace.Goals as goal

pub slot-slot-requires : goal.slot-slot-requires
slot-slot-requires c =
    let s = still c.self.view_is c.self.invariant c.put_in_order.ensures.kept in
    has_slot _ c.args.block s.sound (rw (← s.view_is) at c.requires.block)

pub overflow_add-end : goal.overflow_add-end
overflow_add-end c =
    let s = still c.self.view_is c.self.invariant c.put_in_order.ensures.kept in
    let read = reads _ c.args.block c.slot-slot.result s.sound c.slot-slot.ensures in
    let items = ap (λ o. length (block_items o)) read.is in
    let fits = rw (← s.view_is) at c.requires.there in
    let size = sizes _ s.sound in
    omega (arith, read.within, size.items, size.item_room)

pub overflow_add-slot : goal.overflow_add-slot
overflow_add-slot c =
    let s = still c.self.view_is c.self.invariant c.put_in_order.ensures.kept in
    let read = reads _ c.args.block c.slot-slot.result s.sound c.slot-slot.ensures in
    let items = ap (λ o. length (block_items o)) read.is in
    let fits = rw (← s.view_is) at c.requires.there in
    let size = sizes _ s.sound in
    omega (arith, fits, items, read.length_is, read.within, size.items, size.item_room)

pub replace_within-requires-clause-there : goal.replace_within-requires-clause-there
replace_within-requires-clause-there c =
    let s = still c.self.view_is c.self.invariant c.put_in_order.ensures.kept in
    let read = reads _ c.args.block c.slot-slot.result s.sound c.slot-slot.ensures in
    let items = ap (λ o. length (block_items o)) read.is in
    let fits = rw (← s.view_is) at c.requires.there in
    let size = sizes _ s.sound in
    omega (arith, fits, items, read.length_is)

pub replace_within-requires-clause-end : goal.replace_within-requires-clause-end
replace_within-requires-clause-end c =
    let s = still c.self.view_is c.self.invariant c.put_in_order.ensures.kept in
    let read = reads _ c.args.block c.slot-slot.result s.sound c.slot-slot.ensures in
    let items = ap (λ o. length (block_items o)) read.is in
    let fits = rw (← s.view_is) at c.requires.there in
    let size = sizes _ s.sound in
    omega (arith, read.within, c.put_in_order.new.items.ok.0)

pub overflow_sub-length : goal.overflow_sub-length
overflow_sub-length c =
    let s = still c.self.view_is c.self.invariant c.put_in_order.ensures.kept in
    let read = reads _ c.args.block c.slot-slot.result s.sound c.slot-slot.ensures in
    let items = ap (λ o. length (block_items o)) read.is in
    let fits = rw (← s.view_is) at c.requires.there in
    let size = sizes _ s.sound in
    omega (arith, fits, items, read.length_is)

pub overflow_add-self : goal.overflow_add-self
overflow_add-self c =
    let s = still c.self.view_is c.self.invariant c.put_in_order.ensures.kept in
    let read = reads _ c.args.block c.slot-slot.result s.sound c.slot-slot.ensures in
    let items = ap (λ o. length (block_items o)) read.is in
    let fits = rw (← s.view_is) at c.requires.there in
    let size = sizes _ s.sound in
    omega (arith, fits, items, read.length_is, read.within, size.gaps, size.blocks_end, size.items, size.item_room)

pub invariant_of-self : goal.invariant_of-self
invariant_of-self c =
    let s = still c.self.view_is c.self.invariant c.put_in_order.ensures.kept in
    let read = reads _ c.args.block c.slot-slot.result s.sound c.slot-slot.ensures in
    let items = ap (λ o. length (block_items o)) read.is in
    let fits = rw (← s.view_is) at c.requires.there in
    let size = sizes _ s.sound in
    (replace_less_shows _ c.args.block c.slot-slot.result c.args.at c.args.count (c.slot-slot.result.start + c.slot-slot.result.length - (c.slot-slot.result.start + c.args.at + c.args.count)) c.args.by.now c.set.new.slots c.replace_within.new.items _ _ s.sound c.put_in_order.ensures.order c.slot-slot.ensures
    c.if-by-count.true (omega (arith, fits, items, read.length_is)) (omega (arith, fits, items, read.length_is, c.if-by-count.true)) c.set.ensures.entries c.set.ensures.spare c.replace_within.ensures.items c.replace_within.ensures.capacity refl (rw (← s.view_is) at c.requires.rules)).sound

pub returns-then-by-count-clause-graph : goal.returns-then-by-count-clause-graph
returns-then-by-count-clause-graph c =
    let s = still c.self.view_is c.self.invariant c.put_in_order.ensures.kept in
    let read = reads _ c.args.block c.slot-slot.result s.sound c.slot-slot.ensures in
    let items = ap (λ o. length (block_items o)) read.is in
    let fits = rw (← s.view_is) at c.requires.there in
    let size = sizes _ s.sound in
    (replace_less_shows _ c.args.block c.slot-slot.result c.args.at c.args.count (c.slot-slot.result.start + c.slot-slot.result.length - (c.slot-slot.result.start + c.args.at + c.args.count)) c.args.by.now c.set.new.slots c.replace_within.new.items _ _ s.sound c.put_in_order.ensures.order c.slot-slot.ensures
    c.if-by-count.true (omega (arith, fits, items, read.length_is)) (omega (arith, fits, items, read.length_is, c.if-by-count.true)) c.set.ensures.entries c.set.ensures.spare c.replace_within.ensures.items c.replace_within.ensures.capacity refl (rw (← s.view_is) at c.requires.rules)).is
    ∙ ap (λ v. replaced v.graph c.args.block c.args.at c.args.count c.args.by.now) s.view_is

pub returns-then-by-count-clause-spare : goal.returns-then-by-count-clause-spare
returns-then-by-count-clause-spare c =
    let s = still c.self.view_is c.self.invariant c.put_in_order.ensures.kept in
    let read = reads _ c.args.block c.slot-slot.result s.sound c.slot-slot.ensures in
    let items = ap (λ o. length (block_items o)) read.is in
    let fits = rw (← s.view_is) at c.requires.there in
    let size = sizes _ s.sound in
    let long : length c.replace_within.new.items.items ≡ length c.put_in_order.new.items.items = shrunk_long c.put_in_order.new.items.items c.args.by.now (c.slot-slot.result.start + c.args.at) c.args.count (c.slot-slot.result.start + c.slot-slot.result.length - (c.slot-slot.result.start + c.args.at + c.args.count)) c.replace_within.new.items.items c.if-by-count.true (omega (arith, fits, items, read.length_is, read.within)) c.replace_within.ensures.items in
    same_room _ _ c.set.ensures.spare (omega (arith, long, size.items, c.if-by-count.true)) refl
    ∙ ap (λ v. record v.spare { items = v.spare.items + c.args.count - length c.args.by.now }) s.view_is

-- MORE ITEMS

pub slot-slot-requires-2 : goal.slot-slot-requires-2
slot-slot-requires-2 c =
    let t = closed c.self.view_is c.self.invariant c.close_gaps.ensures.kept c.close_gaps.ensures.gaps c.close_gaps.ensures.order in
    has_slot _ c.args.block t.tight.sound (rw (← t.view_is) at c.requires.block)

pub overflow_cast-added : goal.overflow_cast-added
overflow_cast-added c =
    let t = closed c.self.view_is c.self.invariant c.close_gaps.ensures.kept c.close_gaps.ensures.gaps c.close_gaps.ensures.order in
    let p = placed _ c.args.block c.slot-slot-2.result t.tight (rw (← t.view_is) at c.requires.block) c.slot-slot-2.ensures in
    let fits = rw (← t.view_is) at c.requires.there in
    let spare = rw (← t.view_is) at c.requires.spare in
    omega (arith, fits, spare, p.counted, p.size, p.sizes.items, p.sizes.item_room)

pub overflow_add-slot-2 : goal.overflow_add-slot-2
overflow_add-slot-2 c =
    let t = closed c.self.view_is c.self.invariant c.close_gaps.ensures.kept c.close_gaps.ensures.gaps c.close_gaps.ensures.order in
    let p = placed _ c.args.block c.slot-slot-2.result t.tight (rw (← t.view_is) at c.requires.block) c.slot-slot-2.ensures in
    let fits = rw (← t.view_is) at c.requires.there in
    omega (arith, fits, p.counted, p.size, p.sizes.items, p.sizes.item_room)

pub replace-requires-clause-there : goal.replace-requires-clause-there
replace-requires-clause-there c =
    let t = closed c.self.view_is c.self.invariant c.close_gaps.ensures.kept c.close_gaps.ensures.gaps c.close_gaps.ensures.order in
    let p = placed _ c.args.block c.slot-slot-2.result t.tight (rw (← t.view_is) at c.requires.block) c.slot-slot-2.ensures in
    let fits = rw (← t.view_is) at c.requires.there in
    omega (arith, fits, p.counted, p.size, c.close_gaps.new.items.ok.0)

pub replace-requires-clause-room : goal.replace-requires-clause-room
replace-requires-clause-room c =
    let t = closed c.self.view_is c.self.invariant c.close_gaps.ensures.kept c.close_gaps.ensures.gaps c.close_gaps.ensures.order in
    let p = placed _ c.args.block c.slot-slot-2.result t.tight (rw (← t.view_is) at c.requires.block) c.slot-slot-2.ensures in
    let fits = rw (← t.view_is) at c.requires.there in
    let spare = rw (← t.view_is) at c.requires.spare in
    omega (arith, fits, spare, p.counted, p.size, p.sizes.items, t.tight.room.item_room, c.close_gaps.new.items.ok.0)

pub replace-requires-clause-small : goal.replace-requires-clause-small
replace-requires-clause-small c =
    let t = closed c.self.view_is c.self.invariant c.close_gaps.ensures.kept c.close_gaps.ensures.gaps c.close_gaps.ensures.order in
    let p = placed _ c.args.block c.slot-slot-2.result t.tight (rw (← t.view_is) at c.requires.block) c.slot-slot-2.ensures in
    let fits = rw (← t.view_is) at c.requires.there in
    let spare = rw (← t.view_is) at c.requires.spare in
    omega (arith, fits, spare, p.counted, p.size, p.sizes.items, p.sizes.item_room)

pub overflow_sub-slot : goal.overflow_sub-slot
overflow_sub-slot c =
    let t = closed c.self.view_is c.self.invariant c.close_gaps.ensures.kept c.close_gaps.ensures.gaps c.close_gaps.ensures.order in
    let p = placed _ c.args.block c.slot-slot-2.result t.tight (rw (← t.view_is) at c.requires.block) c.slot-slot-2.ensures in
    let fits = rw (← t.view_is) at c.requires.there in
    omega (arith, fits, p.counted)

pub overflow_add-slot-3 : goal.overflow_add-slot-3
overflow_add-slot-3 c =
    let t = closed c.self.view_is c.self.invariant c.close_gaps.ensures.kept c.close_gaps.ensures.gaps c.close_gaps.ensures.order in
    let p = placed _ c.args.block c.slot-slot-2.result t.tight (rw (← t.view_is) at c.requires.block) c.slot-slot-2.ensures in
    let fits = rw (← t.view_is) at c.requires.there in
    let spare = rw (← t.view_is) at c.requires.spare in
    omega (arith, fits, spare, p.counted, p.size, p.sizes.items, p.sizes.item_room)

pub resize-requires-clause-distinct : goal.resize-requires-clause-distinct
resize-requires-clause-distinct c =
    let t = closed c.self.view_is c.self.invariant c.close_gaps.ensures.kept c.close_gaps.ensures.gaps c.close_gaps.ensures.order in
    distinct_slots _ t.tight

pub resize-requires-clause-numbered : goal.resize-requires-clause-numbered
resize-requires-clause-numbered c =
    let t = closed c.self.view_is c.self.invariant c.close_gaps.ensures.kept c.close_gaps.ensures.gaps c.close_gaps.ensures.order in
    (placed _ c.args.block c.slot-slot-2.result t.tight (rw (← t.view_is) at c.requires.block) c.slot-slot-2.ensures).numbered

pub resize-requires-clause-fits : goal.resize-requires-clause-fits
resize-requires-clause-fits c =
    let t = closed c.self.view_is c.self.invariant c.close_gaps.ensures.kept c.close_gaps.ensures.gaps c.close_gaps.ensures.order in
    let p = placed _ c.args.block c.slot-slot-2.result t.tight (rw (← t.view_is) at c.requires.block) c.slot-slot-2.ensures in
    let fits = rw (← t.view_is) at c.requires.there in
    let spare = rw (← t.view_is) at c.requires.spare in
    omega (arith, fits, spare, p.counted, p.size, p.behind_length, p.sizes.items, p.sizes.item_room)

pub overflow_sub-others : goal.overflow_sub-others
overflow_sub-others c =
    let t = closed c.self.view_is c.self.invariant c.close_gaps.ensures.kept c.close_gaps.ensures.gaps c.close_gaps.ensures.order in
    let p = placed _ c.args.block c.slot-slot-2.result t.tight (rw (← t.view_is) at c.requires.block) c.slot-slot-2.ensures in
    let fits = rw (← t.view_is) at c.requires.there in
    omega (arith, fits, p.counted, p.blocks_end)

pub overflow_add-self-2 : goal.overflow_add-self-2
overflow_add-self-2 c =
    let t = closed c.self.view_is c.self.invariant c.close_gaps.ensures.kept c.close_gaps.ensures.gaps c.close_gaps.ensures.order in
    let p = placed _ c.args.block c.slot-slot-2.result t.tight (rw (← t.view_is) at c.requires.block) c.slot-slot-2.ensures in
    let fits = rw (← t.view_is) at c.requires.there in
    let spare = rw (← t.view_is) at c.requires.spare in
    omega (arith, fits, spare, p.counted, p.size, p.blocks_end, p.sizes.items, p.sizes.item_room)

pub invariant_of-self-2 : goal.invariant_of-self-2
invariant_of-self-2 c =
    let t = closed c.self.view_is c.self.invariant c.close_gaps.ensures.kept c.close_gaps.ensures.gaps c.close_gaps.ensures.order in
    (replace_shows _ c.args.block c.slot-slot-2.result c.args.at c.args.count (length c.args.by.now) c.args.by.now c.resize.new.slots c.replace.new.items _ t.tight (rw (← t.view_is) at c.requires.block) c.slot-slot-2.ensures (rw (← t.view_is) at c.requires.there) refl (rw (← t.view_is) at c.requires.spare) c.resize.ensures.entries c.resize.ensures.spare c.replace.ensures.items c.replace.ensures.capacity refl (rw (← t.view_is) at c.requires.rules)).sound

pub returns-clause-graph : goal.returns-clause-graph
returns-clause-graph c =
    let t = closed c.self.view_is c.self.invariant c.close_gaps.ensures.kept c.close_gaps.ensures.gaps c.close_gaps.ensures.order in
    (replace_shows _ c.args.block c.slot-slot-2.result c.args.at c.args.count (length c.args.by.now) c.args.by.now c.resize.new.slots c.replace.new.items _ t.tight (rw (← t.view_is) at c.requires.block) c.slot-slot-2.ensures (rw (← t.view_is) at c.requires.there) refl (rw (← t.view_is) at c.requires.spare) c.resize.ensures.entries c.resize.ensures.spare c.replace.ensures.items c.replace.ensures.capacity refl (rw (← t.view_is) at c.requires.rules)).is
    ∙ ap (λ v. replaced v.graph c.args.block c.args.at c.args.count c.args.by.now) t.view_is

pub returns-clause-spare : goal.returns-clause-spare
returns-clause-spare c =
    let t = closed c.self.view_is c.self.invariant c.close_gaps.ensures.kept c.close_gaps.ensures.gaps c.close_gaps.ensures.order in
    let items = replace_spare _ c.args.block c.slot-slot-2.result c.args.at c.args.count c.args.by.now c.replace.new.items.items t.tight (rw (← t.view_is) at c.requires.block) c.slot-slot-2.ensures (rw (← t.view_is) at c.requires.there) (rw (← t.view_is) at c.requires.spare) c.replace.ensures.items in
    same_room _ _ c.resize.ensures.spare items refl
    ∙ ap (λ v. record v.spare { items = v.spare.items + c.args.count - length c.args.by.now }) t.view_is
