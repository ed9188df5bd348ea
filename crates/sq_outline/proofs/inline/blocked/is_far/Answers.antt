use Rattle.std.proofs.Common.{arith}
use Rattle.std.proofs.lemmas.Bool.Decides.{nat_tests}
use Rattle.sq_outline.proofs.Blocked.{none_near}
use Rattle.sq_outline.proofs.inline.blocked.is_far.Goals as goal

pub returns : goal.returns
returns c = λ far near.
    let misses = c.missing.ensures in
    none_near c.args.graph.now.graph c.args.procedure c.args.spread.more c.learn.ensures.rules c.requires.more c.args.block c.in-Some.branch.at c.in-Some.branch.to c.args.spread.first c.args.spread.last c.in-Some.ensures.branch c.requires.first c.requires.last (grind (arith, nat_tests, misses, far)) near
