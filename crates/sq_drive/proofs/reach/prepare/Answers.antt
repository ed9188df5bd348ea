use Rattle.law_follow.proofs.Following.{graph_follows_itself}
use Rattle.sq_pass.proofs.Rewriting.{rewritten_itself}
use Rattle.sq_drive.specs.Rows.{IsCandidate, described}
use Rattle.sq_drive.proofs.reach.prepare.Goals as goal

pub returns-in-Items-clause-rewritten : goal.returns-in-Items-clause-rewritten
returns-in-Items-clause-rewritten c = rewritten_itself IsCandidate described c.args.savings c.args.graph.now.graph c.requires.canonical

pub returns-in-Nothing-clause-rewritten : goal.returns-in-Nothing-clause-rewritten
returns-in-Nothing-clause-rewritten c = rewritten_itself IsCandidate described c.args.savings c.args.graph.now.graph c.requires.canonical

pub returns-in-Items-clause-follows : goal.returns-in-Items-clause-follows
returns-in-Items-clause-follows c = graph_follows_itself c.args.graph.now.graph

pub returns-in-Nothing-clause-follows : goal.returns-in-Nothing-clause-follows
returns-in-Nothing-clause-follows c = graph_follows_itself c.args.graph.now.graph
