use Rattle.law_follow.proofs.Following.{graph_follows_itself}
use Rattle.sq_tail.proofs.sweep.ends.sweep_ends.Goals as goal

pub returns-in_err-ends-clause-follows : goal.returns-in_err-ends-clause-follows
returns-in_err-ends-clause-follows c = graph_follows_itself c.args.graph.now.graph

pub returns-in_err-numbers-clause-follows : goal.returns-in_err-numbers-clause-follows
returns-in_err-numbers-clause-follows c = graph_follows_itself c.args.graph.now.graph
