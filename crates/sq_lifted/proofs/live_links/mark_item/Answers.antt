use Rattle.std.proofs.Common.{arith}
use Rattle.sq_graph.specs.Blocks.{items_of}
use Rattle.sq_lifted.specs.LiveLinks.{ItemDies}
use Rattle.sq_lifted.proofs.Dying.{in_list, out_there, marks_none, marks_one, dead_item, live_item, other_item}
use Rattle.sq_lifted.proofs.live_links.mark_item.Goals as goal

pub link-requires : goal.link-requires
link-requires c = out_there c.args.g.now.graph c.args.block c.args.place c.in-Out.procedure c.args.item.now c.requires.rules c.requires.item c.in-Out.is

pub dead_at-requires : goal.dead_at-requires
dead_at-requires c =
    let below = in_list (items_of c.args.g.now.graph c.args.block) c.args.place c.args.item.now c.requires.item in
    let count = c.requires.live.count c.args.block c.requires.block in
    omega (arith, below, count)

pub index_mut-requires : goal.index_mut-requires
index_mut-requires c =
    let there = out_there c.args.g.now.graph c.args.block c.args.place c.in-Out.procedure c.args.item.now c.requires.rules c.requires.item c.in-Out.is in
    omega (arith, there, c.requires.flags)

pub returns-then-not-dead_at : goal.returns-then-not-dead_at
returns-then-not-dead_at c =
    let g = c.args.g.now.graph in
    let below = in_list (items_of c.args.g.now.graph c.args.block) c.args.place c.args.item.now c.requires.item in
    let answer = c.dead_at.ensures.dead c.args.g.now.graph c.requires.live c.requires.block (omega (arith, below)) in
    marks_one (ItemDies g c.args.block c.args.place c.args.item.now) c.args.flags.now.items c.in-Out.procedure
    (live_item g c.args.block c.args.place c.in-Out.procedure c.args.item.now c.in-Out.is c.link.result c.link.ensures (λ dead. let yes = answer.1 dead in cc (yes, c.if-not-dead_at.true)))
    (other_item g c.args.block c.args.place c.in-Out.procedure c.args.item.now c.in-Out.is)

pub returns-else-not-dead_at : goal.returns-else-not-dead_at
returns-else-not-dead_at c =
    let g = c.args.g.now.graph in
    let below = in_list (items_of c.args.g.now.graph c.args.block) c.args.place c.args.item.now c.requires.item in
    let answer = c.dead_at.ensures.dead c.args.g.now.graph c.requires.live c.requires.block (omega (arith, below)) in
    marks_none (ItemDies g c.args.block c.args.place c.args.item.now) c.args.flags.now.items
    (dead_item g c.args.block c.args.place c.in-Out.procedure c.args.item.now c.in-Out.is c.link.result c.link.ensures (answer.0 c.if-not-dead_at.false))
