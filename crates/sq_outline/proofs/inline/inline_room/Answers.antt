use Rattle.std.proofs.Common.{ap, length, arith}
use Rattle.sq_outline.proofs.RecallNumbers.{body_words}
use Rattle.sq_outline.proofs.inline.inline_room.Goals as goal

pub overflow_cast-result : goal.overflow_cast-result
overflow_cast-result c = let few = body_words c.args.graph.now.graph c.args.procedure c.requires.there in let is = ap length c.body.ensures in omega (arith, c.learn.ensures.few)

pub overflow_add-result : goal.overflow_add-result
overflow_add-result c = let few = body_words c.args.graph.now.graph c.args.procedure c.requires.there in let is = ap length c.body.ensures in omega (arith, c.learn.ensures.few)
