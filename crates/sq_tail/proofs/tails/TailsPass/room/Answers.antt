use Rattle.std.proofs.Common.{arith}
use Rattle.sq_tail.proofs.Admitting.{some_words}
use Rattle.sq_tail.proofs.tails.TailsPass.room.Goals as goal

pub returns-clause-within : goal.returns-clause-within
returns-clause-within c = record {
  blocks = some_words c.args.graph.now.graph c.args._cut.now c.learn.ensures.rules c.requires;
  items = omega arith;
  procedures = omega arith;
}
