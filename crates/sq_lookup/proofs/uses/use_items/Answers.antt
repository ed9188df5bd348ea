use Rattle.std.proofs.Common.{subst}
use Rattle.sq_graph.specs.Uses.{item_uses}
use Rattle.sq_lookup.specs.Names.{Adds}
use Rattle.sq_lookup.proofs.Adding.{adds_more, adds_none}
use Rattle.sq_lookup.proofs.uses.use_items.Goals as goal

pub loop-item-init : goal.loop-item-init
loop-item-init c = adds_none c.args.used.now

pub loop-item-preserved : goal.loop-item-preserved
loop-item-preserved c =
    adds_more item_uses c.args.items.now c.loop-item.item-index c.item-item.result c.args.used.now c.loop-item.used c.insert_some.new.self c.loop-item-test.true c.item-item.is c.loop-item.invariant
    (subst (λ ns. Adds ns c.loop-item.used c.insert_some.new.self) c.target.ensures c.in_ok-insert_some.ensures)
