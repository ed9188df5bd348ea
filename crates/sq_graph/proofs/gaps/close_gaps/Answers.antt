use Rattle.sq_graph.proofs.Closing.{closes}
use Rattle.sq_graph.proofs.gaps.close_gaps.Goals as goal

pub returns-clause-kept : goal.returns-clause-kept
returns-clause-kept c =
    closes c.args.slots.now c.renumber.new.slots c.args.items.now c.bring_together.new.items c.args.blocks_end.now c.args.gaps.now c.bring_together.result c.first-head.result c.args.loose.now c.bring_together.new.loose c.requires c.bring_together.ensures.order c.bring_together.ensures.count c.bring_together.ensures.items c.bring_together.ensures.capacity c.first-head.ensures c.renumber.ensures.entries c.renumber.ensures.spare
