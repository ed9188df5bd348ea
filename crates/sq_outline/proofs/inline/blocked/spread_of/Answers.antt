use Rattle.std.proofs.Common.{ap, length, arith}
use Rattle.sq_outline.proofs.RecallNumbers.{body_words}
use Rattle.sq_outline.proofs.inline.blocked.spread_of.Goals as goal

pub returns-clause-small : goal.returns-clause-small
returns-clause-small c =
    let few = body_words c.args.graph.now.graph c.args.procedure c.requires.there in
    let is = ap length c.body.ensures in
    omega (arith, c.learn.ensures.few, few, is)
