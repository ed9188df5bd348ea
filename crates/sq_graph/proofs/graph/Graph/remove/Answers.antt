use Rattle.std.proofs.Common.{◌∙◌, ◌+◌, length, ap, refl, arith}
use Rattle.sq_graph.specs.Blocks.{items_of, block_items}
use Rattle.sq_graph.specs.Operations.{without_block}
use Rattle.sq_graph.proofs.SlotReads.{has_slot, reads}
use Rattle.sq_graph.proofs.Sizes.{sizes, same_room}
use Rattle.sq_graph.proofs.BlockWrites.{remove_shows}
use Rattle.sq_graph.proofs.graph.Graph.remove.Goals as goal

pub unlink-slot-requires : goal.unlink-slot-requires
unlink-slot-requires c = has_slot c.self.inside c.args.block c.self.invariant (rw (← c.self.view_is) at c.requires.block)

pub overflow_add-self : goal.overflow_add-self
overflow_add-self c =
    let size = sizes c.self.inside c.self.invariant in
    let read = reads c.self.inside c.args.block c.unlink-slot.result c.self.invariant c.unlink-slot.ensures.value in
    omega (arith, size.gaps, size.blocks_end, size.items, size.item_room, read.within)

pub invariant_of-self : goal.invariant_of-self
invariant_of-self c =
    (remove_shows c.self.inside c.args.block c.unlink-slot.result c.unlink-slot.new.self _ c.self.invariant c.unlink-slot.ensures.value c.unlink-slot.ensures.entries c.unlink-slot.ensures.spare refl (rw (← c.self.view_is) at c.requires.rules)).sound

pub returns-clause-graph : goal.returns-clause-graph
returns-clause-graph c =
    (remove_shows c.self.inside c.args.block c.unlink-slot.result c.unlink-slot.new.self _ c.self.invariant c.unlink-slot.ensures.value c.unlink-slot.ensures.entries c.unlink-slot.ensures.spare refl (rw (← c.self.view_is) at c.requires.rules)).is
    ∙ ap (λ v. without_block v.graph c.args.block) c.self.view_is

pub returns-clause-spare : goal.returns-clause-spare
returns-clause-spare c =
    let read = reads c.self.inside c.args.block c.unlink-slot.result c.self.invariant c.unlink-slot.ensures.value in
    let size = sizes c.self.inside c.self.invariant in
    same_room _ _ c.unlink-slot.ensures.spare (omega (arith, size.items, read.length_is, ap (λ o. length (block_items o)) read.is)) refl
    ∙ ap (λ v. record v.spare { blocks = v.spare.blocks + 1; items = v.spare.items + length (items_of v.graph c.args.block) }) c.self.view_is
