use Rattle.law_follow.proofs.Following.{graph_follows_through}
use Rattle.sq_drive.proofs.replaying.take_first.Goals as goal

pub returns-in_err-take_step-clause-follows : goal.returns-in_err-take_step-clause-follows
returns-in_err-take_step-clause-follows c =
    graph_follows_through c.args.graph.now.graph c.take_calls.new.graph.graph c.take_step.new.graph.graph c.take_calls.ensures.follows c.take_step.ensures.follows

pub returns-then-branch-clause-follows : goal.returns-then-branch-clause-follows
returns-then-branch-clause-follows c =
    graph_follows_through c.args.graph.now.graph c.take_calls.new.graph.graph c.take_step.new.graph.graph c.take_calls.ensures.follows c.take_step.ensures.follows
