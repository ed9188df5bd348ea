use Rattle.std.proofs.Common.{◌∙◌, ap, arith, length}
use Rattle.sq_graph.specs.Blocks.{block_items}
use Rattle.sq_graph.specs.Operations.{split_at}
use Rattle.sq_graph.specs.Words.{words_of}
use Rattle.sq_graph.specs.Layout.{graph_of}
use Rattle.sq_graph.proofs.Sizes.{sizes}
use Rattle.sq_graph.proofs.SlotReads.{has_slot, reads, new_name}
use Rattle.sq_graph.proofs.BlockWrites.{split_shows}
use Rattle.sq_graph.proofs.SplitRules.{split_rules, words_of-split}
use Rattle.sq_graph.proofs.graph.Graph.split.Goals as goal

pub slot-slot-requires : goal.slot-slot-requires
slot-slot-requires c = has_slot c.self.inside c.args.block c.self.invariant (rw (← c.self.view_is) at c.requires.block)

pub overflow_add-second : goal.overflow_add-second
overflow_add-second c =
    let size = sizes c.self.inside c.self.invariant in
    let shown = reads c.self.inside c.args.block c.slot-slot.result c.self.invariant c.slot-slot.ensures in
    let fits = rw (← c.self.view_is) at c.requires.at in
    let items = ap (λ o. length (block_items o)) shown.is in
    omega (arith, shown.within, shown.length_is, items, fits, size.items, size.item_room)

pub overflow_sub-second : goal.overflow_sub-second
overflow_sub-second c =
    let shown = reads c.self.inside c.args.block c.slot-slot.result c.self.invariant c.slot-slot.ensures in
    let fits = rw (← c.self.view_is) at c.requires.at in
    let items = ap (λ o. length (block_items o)) shown.is in
    omega (arith, shown.length_is, items, fits)

pub invariant_of-self : goal.invariant_of-self
invariant_of-self c =
    let fresh = new_name c.self.inside c.insert_after-name.result c.insert_after-name.ensures.fresh in
    let has = rw (← c.self.view_is) at c.requires.block in
    (split_shows c.self.inside c.args.block c.args.at c.slot-slot.result c.insert_after-name.result c.insert_after-name.new.self c.set.new.slots c.self.invariant (rw (← c.self.view_is) at c.requires.at) c.slot-slot.ensures c.insert_after-name.ensures.entries c.insert_after-name.ensures.spare c.set.ensures.entries c.set.ensures.spare
    (split_rules (graph_of c.self.inside) c.insert_after-name.result c.args.block c.args.at c.self.invariant.rules fresh has)).sound

pub returns-clause-new : goal.returns-clause-new
returns-clause-new c = rw (← c.self.view_is) (new_name c.self.inside c.insert_after-name.result c.insert_after-name.ensures.fresh)

pub returns-clause-graph : goal.returns-clause-graph
returns-clause-graph c =
    let fresh = new_name c.self.inside c.insert_after-name.result c.insert_after-name.ensures.fresh in
    let has = rw (← c.self.view_is) at c.requires.block in
    (split_shows c.self.inside c.args.block c.args.at c.slot-slot.result c.insert_after-name.result c.insert_after-name.new.self c.set.new.slots c.self.invariant (rw (← c.self.view_is) at c.requires.at) c.slot-slot.ensures c.insert_after-name.ensures.entries c.insert_after-name.ensures.spare c.set.ensures.entries c.set.ensures.spare
    (split_rules (graph_of c.self.inside) c.insert_after-name.result c.args.block c.args.at c.self.invariant.rules fresh has)).is
    ∙ ap (λ v. split_at v.graph c.insert_after-name.result c.args.block c.args.at) c.self.view_is

pub returns-clause-words : goal.returns-clause-words
returns-clause-words c =
    let fresh = new_name c.self.inside c.insert_after-name.result c.insert_after-name.ensures.fresh in
    let has = rw (← c.self.view_is) at c.requires.block in
    ap (λ g. words_of g)
    (split_shows c.self.inside c.args.block c.args.at c.slot-slot.result c.insert_after-name.result c.insert_after-name.new.self c.set.new.slots c.self.invariant (rw (← c.self.view_is) at c.requires.at) c.slot-slot.ensures c.insert_after-name.ensures.entries c.insert_after-name.ensures.spare c.set.ensures.entries c.set.ensures.spare
    (split_rules (graph_of c.self.inside) c.insert_after-name.result c.args.block c.args.at c.self.invariant.rules fresh has)).is
    ∙ words_of-split (graph_of c.self.inside) c.insert_after-name.result c.args.block c.args.at has
    ∙ ap (λ v. words_of v.graph) c.self.view_is

pub returns-clause-rules : goal.returns-clause-rules
returns-clause-rules c =
    let fresh = new_name c.self.inside c.insert_after-name.result c.insert_after-name.ensures.fresh in
    let has = rw (← c.self.view_is) at c.requires.block in
    (split_shows c.self.inside c.args.block c.args.at c.slot-slot.result c.insert_after-name.result c.insert_after-name.new.self c.set.new.slots c.self.invariant (rw (← c.self.view_is) at c.requires.at) c.slot-slot.ensures c.insert_after-name.ensures.entries c.insert_after-name.ensures.spare c.set.ensures.entries c.set.ensures.spare
    (split_rules (graph_of c.self.inside) c.insert_after-name.result c.args.block c.args.at c.self.invariant.rules fresh has)).sound.rules
