use Rattle.law_follow.proofs.Following.{graph_follows_itself, graph_follows_through}
use Rattle.sq_tail.proofs.Sweeping.{swept_on}
use Rattle.sq_tail.proofs.sweep.sweep.Goals as goal

pub returns-in_err-uses-clause-follows : goal.returns-in_err-uses-clause-follows
returns-in_err-uses-clause-follows c = graph_follows_itself c.args.graph.now.graph

pub returns-clause-rewritten : goal.returns-clause-rewritten
returns-clause-rewritten c =
    swept_on c.args.savings c.in_ok-after.after c.args.graph.now.graph c.sweep_ends.new.graph.graph c.sweep_bodies.new.graph.graph c.sweep_bodies.result c.in_ok-after.ensures.rewritten c.sweep_bodies.ensures.rewritten

pub returns-clause-follows : goal.returns-clause-follows
returns-clause-follows c = graph_follows_through c.args.graph.now.graph c.sweep_ends.new.graph.graph c.sweep_bodies.new.graph.graph c.sweep_ends.ensures.follows c.sweep_bodies.ensures.follows
