use Rattle.law_follow.proofs.Following.{graph_follows_itself}
use Rattle.sq_outline.proofs.sweep.make_for.Goals as goal

pub returns-in_err-cut-clause-follows : goal.returns-in_err-cut-clause-follows
returns-in_err-cut-clause-follows c = graph_follows_itself c.args.graph.now.graph

pub returns-in_default-clause-follows : goal.returns-in_default-clause-follows
returns-in_default-clause-follows c = graph_follows_itself c.args.graph.now.graph
