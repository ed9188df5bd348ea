use Rattle.law_follow.proofs.Following.{graph_follows_itself}
use Rattle.sq_jumps.proofs.fall.sweep_falls.Goals as goal

pub returns-in_err-names-clause-follows : goal.returns-in_err-names-clause-follows
returns-in_err-names-clause-follows c = graph_follows_itself c.args.graph.now.graph
