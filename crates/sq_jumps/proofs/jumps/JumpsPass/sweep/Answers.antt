use Rattle.law_follow.proofs.Following.{graph_follows_through}
use Rattle.sq_jumps.proofs.jumps.JumpsPass.sweep.Goals as goal
use Rattle.sq_jumps.proofs.Rewritten.{swept_on}

pub returns-clause-rewritten : goal.returns-clause-rewritten
returns-clause-rewritten c =
    swept_on c.args.savings c.in_ok-after_calls.after_calls c.args.graph.now.graph c.sweep_calls.new.graph.graph c.sweep_jumps.new.graph.graph c.sweep_jumps.result c.in_ok-after_calls.ensures.rewritten c.sweep_jumps.ensures.rewritten

pub returns-clause-follows : goal.returns-clause-follows
returns-clause-follows c = graph_follows_through c.args.graph.now.graph c.sweep_calls.new.graph.graph c.sweep_jumps.new.graph.graph c.sweep_calls.ensures.follows c.sweep_jumps.ensures.follows
