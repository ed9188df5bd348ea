use Rattle.std.proofs.Common.{length, ap, arith}
use Rattle.law_follow.proofs.Following.{graph_follows_itself}
use Rattle.sq_pass.proofs.Rewriting.{rewritten_itself}
use Rattle.sq_tail.specs.Candidates.{IsCandidate, described}
use Rattle.sq_tail.proofs.Sizes.{few_items}
use Rattle.sq_tail.proofs.StillDead.{keeps_dead_where}
use Rattle.sq_tail.proofs.sweep.bodies.drop_for.Goals as goal

pub returns-then-not-may_drop_still-clause-rewritten : goal.returns-then-not-may_drop_still-clause-rewritten
returns-then-not-may_drop_still-clause-rewritten c = rewritten_itself IsCandidate described c.args.savings c.args.graph.now.graph c.requires.canonical

pub returns-then-not-may_drop_still-clause-follows : goal.returns-then-not-may_drop_still-clause-follows
returns-then-not-may_drop_still-clause-follows c = graph_follows_itself c.args.graph.now.graph

pub returns-then-not-may_drop_for-clause-rewritten : goal.returns-then-not-may_drop_for-clause-rewritten
returns-then-not-may_drop_for-clause-rewritten c = rewritten_itself IsCandidate described c.args.savings c.args.graph.now.graph c.requires.canonical

pub returns-then-not-may_drop_for-clause-follows : goal.returns-then-not-may_drop_for-clause-follows
returns-then-not-may_drop_for-clause-follows c = graph_follows_itself c.args.graph.now.graph

pub overflow_cast-length : goal.overflow_cast-length
overflow_cast-length c =
    let few = few_items c.args.graph.now c.args.pair.kept c.learn.ensures.small in
    let is = ap length c.items.ensures in
    omega arith

pub returns-clause-dead : goal.returns-clause-dead
returns-clause-dead c =
    let pair = c.may_drop_for.ensures c.if-not-may_drop_for.false in
    keeps_dead_where c.args.graph.now.graph c.rewrite_pair.new.graph.graph c.args.pair.dropped c.args.pair.kept (length c.items.result.now) c.rewrite_pair.result c.learn.ensures.rules pair.bodies (ap length c.items.ensures) c.rewrite_pair.ensures.made
