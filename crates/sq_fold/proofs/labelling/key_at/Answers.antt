use Rattle.sq_finger.proofs.Lining.{item_there}
use Rattle.sq_fold.proofs.Bareness.{bare_fits, key_of_item, key_of_term}
use Rattle.sq_fold.proofs.labelling.key_at.Goals as goal

pub item_key-requires : goal.item_key-requires
item_key-requires c =
    rw c.bare_item.ensures
    (bare_fits c.in-Some.item.now (item_there c.args.graph.now.graph c.args.place.block c.items.result.now c.args.place.at c.in-Some.item.now c.requires.rules c.requires.block c.items.ensures c.in-Some.ensures.lookup.0 c.in-Some.ensures.lookup.1))

pub returns-in-Some : goal.returns-in-Some
returns-in-Some c =
    key_of_item c.args.graph.now.graph c.args.place c.items.result.now c.in-Some.item.now c.bare_item.result c.item_key.result c.items.ensures c.in-Some.ensures.lookup.0 c.in-Some.ensures.lookup.1 c.bare_item.ensures c.item_key.ensures.value

pub returns-in-None : goal.returns-in-None
returns-in-None c =
    key_of_term c.args.graph.now.graph c.args.place c.items.result.now c.term.result c.bare_term.result c.term_key.result c.items.ensures c.in-None.ensures.lookup.0 c.term.ensures c.bare_term.ensures c.term_key.ensures.value
