use Rattle.std.proofs.Common.{arith}
use Rattle.sq_graph.specs.Blocks.{items_of}
use Rattle.sq_fold.proofs.Leading.{item_here, no_item, few_at, item_leads, term_leads_there}
use Rattle.sq_fold.proofs.nodes.leads_at.Goals as goal

pub overflow_add-result : goal.overflow_add-result
overflow_add-result c =
    let small = c.learn.ensures.small in
    let few = few_at c.args.graph.now.graph c.args.place.block c.args.place.at c.args.graph.now.spare.items c.items.result.now c.requires c.items.ensures c.in-Some.ensures.lookup.0 small.items in
    omega (arith, few)

pub returns-in-Some : goal.returns-in-Some
returns-in-Some c =
    item_leads c.args.graph.now.graph c.args.place c.in-Some.item.now c.item_name.result c.start_of.result
    (item_here c.items.result.now (items_of c.args.graph.now.graph c.args.place.block) c.args.place.at c.in-Some.item.now c.items.ensures c.in-Some.ensures.lookup.0 c.in-Some.ensures.lookup.1) c.item_name.ensures c.start_of.ensures

pub returns-in-None : goal.returns-in-None
returns-in-None c =
    term_leads_there c.args.graph.now.graph c.args.place c.term.result c.slot_of.result c.term_leads-next.result c.start_of-in-None.result c.start_of-in-None-2.result
    (no_item c.items.result.now (items_of c.args.graph.now.graph c.args.place.block) c.args.place.at c.items.ensures c.in-None.ensures.lookup.0) c.term.ensures c.slot_of.ensures c.term_leads-next.ensures c.start_of-in-None.ensures c.start_of-in-None-2.ensures
