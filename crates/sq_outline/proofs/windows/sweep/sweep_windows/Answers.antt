use Rattle.law_follow.proofs.Following.{graph_follows_itself}
use Rattle.sq_outline.proofs.windows.sweep.sweep_windows.Goals as goal

pub returns-in_err-earlier-clause-follows : goal.returns-in_err-earlier-clause-follows
returns-in_err-earlier-clause-follows c = graph_follows_itself c.args.graph.now.graph
