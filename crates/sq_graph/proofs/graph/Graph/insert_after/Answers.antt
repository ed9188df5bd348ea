use Rattle.std.proofs.Common.{◌∙◌, ap, arith}
use Rattle.sq_graph.specs.Operations.{inserted_after}
use Rattle.sq_graph.proofs.Sizes.{sizes}
use Rattle.sq_graph.proofs.SlotReads.{has_slot, reads, new_name}
use Rattle.sq_graph.proofs.BlockWrites.{insert_shows}
use Rattle.sq_graph.proofs.graph.Graph.insert_after.Goals as goal

pub slot-slot-requires : goal.slot-slot-requires
slot-slot-requires c = has_slot c.self.inside c.args.block c.self.invariant (rw (← c.self.view_is) at c.requires.block)

pub overflow_add-start : goal.overflow_add-start
overflow_add-start c =
    let size = sizes c.self.inside c.self.invariant in
    omega (arith, (reads c.self.inside c.args.block c.slot-slot.result c.self.invariant c.slot-slot.ensures).within, size.items, size.item_room)

pub invariant_of-self : goal.invariant_of-self
invariant_of-self c =
    let fresh = new_name c.self.inside c.insert_after.result c.insert_after.ensures.fresh in
    let rules = rw (← c.self.view_is) at c.requires.rules in
    (insert_shows c.self.inside c.args.block c.slot-slot.result c.args.term c.insert_after.result c.insert_after.new.self c.self.invariant c.slot-slot.ensures c.insert_after.ensures.entries c.insert_after.ensures.spare (rules c.insert_after.result fresh)).sound

pub returns-clause-new : goal.returns-clause-new
returns-clause-new c = rw (← c.self.view_is) (new_name c.self.inside c.insert_after.result c.insert_after.ensures.fresh)

pub returns-clause-graph : goal.returns-clause-graph
returns-clause-graph c =
    let fresh = new_name c.self.inside c.insert_after.result c.insert_after.ensures.fresh in
    let rules = rw (← c.self.view_is) at c.requires.rules in
    (insert_shows c.self.inside c.args.block c.slot-slot.result c.args.term c.insert_after.result c.insert_after.new.self c.self.invariant c.slot-slot.ensures c.insert_after.ensures.entries c.insert_after.ensures.spare (rules c.insert_after.result fresh)).is
    ∙ ap (λ v. inserted_after v.graph c.insert_after.result c.args.block c.args.term) c.self.view_is
