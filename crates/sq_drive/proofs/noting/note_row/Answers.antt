use Rattle.std.proofs.Common.{Ok, ap}
use Rattle.law_follow.proofs.Following.{graph_follows_itself}
use Rattle.sq_drive.proofs.noting.note_row.Goals as goal

pub returns-in_err-cut-clause-follows : goal.returns-in_err-cut-clause-follows
returns-in_err-cut-clause-follows c = graph_follows_itself c.args.graph.now.graph

pub returns-in-None-clause-none : goal.returns-in-None-clause-none
returns-in-None-clause-none c = λ e. c.in_ok-cut.ensures.none (ap Ok c.in-None.is)

pub returns-in-None-clause-follows : goal.returns-in-None-clause-follows
returns-in-None-clause-follows c = graph_follows_itself c.args.graph.now.graph
