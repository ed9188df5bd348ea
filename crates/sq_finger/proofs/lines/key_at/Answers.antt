use Rattle.sq_finger.proofs.Lining.{item_there}
use Rattle.sq_finger.proofs.lines.key_at.Goals as goal

pub item_key-requires : goal.item_key-requires
item_key-requires c =
    item_there c.args.graph.now.graph c.args.place.block c.items.result.now c.args.place.at c.in-Some.item.now c.requires.rules c.requires.block c.items.ensures c.in-Some.ensures.lookup.0 c.in-Some.ensures.lookup.1
