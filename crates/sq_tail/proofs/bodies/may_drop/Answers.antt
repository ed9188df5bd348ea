use Rattle.std.proofs.Common.{length, ap, arith}
use Rattle.sq_layout.proofs.Walks.{items_few}
use Rattle.sq_tail.proofs.BodiesFound.{end_small}
use Rattle.sq_tail.proofs.bodies.may_drop.Goals as goal

pub overflow_cast-words : goal.overflow_cast-words
overflow_cast-words c = let few = items_few c.args.graph.now.graph c.args.block c.learn.ensures.few in let is = ap length c.items-items.ensures in omega arith

pub overflow_add-words : goal.overflow_add-words
overflow_add-words c =
    let few = items_few c.args.graph.now.graph c.args.block c.learn.ensures.few in
    let is = ap length c.items-items.ensures in
    let words = c.end_words.ensures in
    omega (arith, end_small c.args.graph.now.graph c.args.block)
