use Rattle.law_follow.proofs.Following.{graph_follows_itself}
use Rattle.sq_pass.proofs.Rewriting.{rewritten_through}
use Rattle.sq_outline.specs.Candidates.{IsCandidate, described}
use Rattle.sq_outline.proofs.sweep.sweep.Goals as goal

pub returns-in_err-live-clause-follows : goal.returns-in_err-live-clause-follows
returns-in_err-live-clause-follows c = graph_follows_itself c.args.graph.now.graph

pub returns-in_err-groups-clause-follows : goal.returns-in_err-groups-clause-follows
returns-in_err-groups-clause-follows c = graph_follows_itself c.args.graph.now.graph

pub returns-clause-rewritten : goal.returns-clause-rewritten
returns-clause-rewritten c =
    rewritten_through IsCandidate described c.args.savings c.in_ok-made.made c.call_each.result c.args.graph.now.graph c.make_groups.new.graph.graph c.call_each.new.graph.graph c.in_ok-made.ensures.rewritten c.call_each.ensures

pub returns-clause-follows : goal.returns-clause-follows
returns-clause-follows c = (returns-clause-rewritten c).lighter.follows
