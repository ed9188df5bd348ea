use Rattle.law_follow.proofs.Following.{graph_follows_itself}
use Rattle.sq_drive.proofs.Moves.{by_jumps}
use Rattle.sq_drive.proofs.reach.lead.Goals as goal

pub returns-clause-rewritten : goal.returns-clause-rewritten
returns-clause-rewritten c =
    by_jumps c.args.savings c.in_ok-after.after c.args.graph.now.graph c.sweep_reach.new.graph.graph c.in_ok-after.ensures.rewritten

pub returns-in_err-ends-clause-follows : goal.returns-in_err-ends-clause-follows
returns-in_err-ends-clause-follows c = graph_follows_itself c.args.graph.now.graph
