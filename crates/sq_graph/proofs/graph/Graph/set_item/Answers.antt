use Rattle.std.proofs.Common.{◌+◌, ◌∷◌, [], ◌∙◌, refl, ap, arith}
use Rattle.std.specs.Vec.{with_item}
use Rattle.sq_graph.specs.Operations.{replaced}
use Rattle.sq_graph.proofs.Sizes.{sizes}
use Rattle.sq_graph.proofs.SlotReads.{has_slot, reads}
use Rattle.sq_graph.proofs.ItemSets.{has_item, set_item_shows}
use Rattle.sq_graph.proofs.graph.Graph.set_item.Goals as goal

pub slot-slot-requires : goal.slot-slot-requires
slot-slot-requires c = has_slot c.self.inside c.args.block c.self.invariant (rw (← c.self.view_is) at c.requires.block)

pub overflow_add-place : goal.overflow_add-place
overflow_add-place c =
    let there = has_item c.self.inside c.args.block c.slot-slot.result c.args.at c.self.invariant c.slot-slot.ensures (rw (← c.self.view_is) at c.requires.there) in
    let read = reads c.self.inside c.args.block c.slot-slot.result c.self.invariant c.slot-slot.ensures in
    let size = sizes c.self.inside c.self.invariant in
    omega (arith, there, read.within, size.items, size.item_room)

pub index_mut-requires : goal.index_mut-requires
index_mut-requires c =
    let there = has_item c.self.inside c.args.block c.slot-slot.result c.args.at c.self.invariant c.slot-slot.ensures (rw (← c.self.view_is) at c.requires.there) in
    let read = reads c.self.inside c.args.block c.slot-slot.result c.self.invariant c.slot-slot.ensures in
    omega (arith, there, read.within, c.self.inside.items.ok.0)

pub invariant_of-self : goal.invariant_of-self
invariant_of-self c =
    let there = has_item c.self.inside c.args.block c.slot-slot.result c.args.at c.self.invariant c.slot-slot.ensures (rw (← c.self.view_is) at c.requires.there) in
    (set_item_shows c.self.inside c.args.block c.slot-slot.result c.args.at c.args.item (with_item c.self.inside.items (c.slot-slot.result.start + c.args.at) c.args.item) c.self.invariant c.slot-slot.ensures there refl refl (rw (← c.self.view_is) at c.requires.rules)).sound

pub returns-clause-graph : goal.returns-clause-graph
returns-clause-graph c =
    let there = has_item c.self.inside c.args.block c.slot-slot.result c.args.at c.self.invariant c.slot-slot.ensures (rw (← c.self.view_is) at c.requires.there) in
    (set_item_shows c.self.inside c.args.block c.slot-slot.result c.args.at c.args.item (with_item c.self.inside.items (c.slot-slot.result.start + c.args.at) c.args.item) c.self.invariant c.slot-slot.ensures there refl refl (rw (← c.self.view_is) at c.requires.rules)).is
    ∙ ap (λ v. replaced v.graph c.args.block c.args.at 1 (c.args.item ∷ [])) c.self.view_is
