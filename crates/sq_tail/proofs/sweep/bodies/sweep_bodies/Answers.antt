use Rattle.law_follow.proofs.Following.{graph_follows_itself}
use Rattle.sq_tail.proofs.sweep.bodies.sweep_bodies.Goals as goal

pub returns-in_err-names-clause-follows : goal.returns-in_err-names-clause-follows
returns-in_err-names-clause-follows c = graph_follows_itself c.args.graph.now.graph

pub returns-in_err-live-clause-follows : goal.returns-in_err-live-clause-follows
returns-in_err-live-clause-follows c = graph_follows_itself c.args.graph.now.graph

pub returns-in_err-pairs-clause-follows : goal.returns-in_err-pairs-clause-follows
returns-in_err-pairs-clause-follows c = graph_follows_itself c.args.graph.now.graph

pub returns-in_err-told-clause-follows : goal.returns-in_err-told-clause-follows
returns-in_err-told-clause-follows c = graph_follows_itself c.args.graph.now.graph
