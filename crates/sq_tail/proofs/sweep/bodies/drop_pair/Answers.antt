use Rattle.std.proofs.Common.{nat_eq}
use Rattle.std.specs.HashMap.{get}
use Rattle.std.proofs.lemmas.Result.{IfOk-weaker}
use Rattle.law_follow.proofs.Following.{graph_follows_itself}
use Rattle.sq_pass.proofs.Rewriting.{rewritten_itself}
use Rattle.sq_tail.specs.Candidates.{IsCandidate, described}
use Rattle.sq_tail.specs.StillDead.{AreTold, KeepsDeadElsewhere}
use Rattle.sq_tail.proofs.StillDead.{told_still}
use Rattle.sq_tail.proofs.sweep.bodies.drop_pair.Goals as goal

pub returns-in-Some-clause-told : goal.returns-in-Some-clause-told
returns-in-Some-clause-told c =
    let old = c.args.graph.now.graph in
    let new = c.drop_for.new.graph.graph in
    let block = c.args.pair.dropped in
    let after = get nat_eq c.remove.new.self in
    let updates = c.remove.ensures.updates in
    IfOk-weaker c.drop_for.result (λ saved. KeepsDeadElsewhere old new block) (λ saved. AreTold new after)
    (λ saved. told_still old new block (get nat_eq c.args.told.now) after c.requires.told updates.1 updates.2)
    c.drop_for.ensures.dead

pub returns-in-None-clause-rewritten : goal.returns-in-None-clause-rewritten
returns-in-None-clause-rewritten c = rewritten_itself IsCandidate described c.args.savings c.args.graph.now.graph c.requires.canonical

pub returns-in-None-clause-follows : goal.returns-in-None-clause-follows
returns-in-None-clause-follows c = graph_follows_itself c.args.graph.now.graph
