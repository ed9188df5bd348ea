use Rattle.law_follow.proofs.Following.{graph_follows_itself}
use Rattle.sq_outline.proofs.windows.pass.WindowsPass.sweep.Goals as goal

pub returns-in_err-live-clause-follows : goal.returns-in_err-live-clause-follows
returns-in_err-live-clause-follows c = graph_follows_itself c.args.graph.now.graph
