use Rattle.law_follow.proofs.Following.{graph_follows_itself}
use Rattle.sq_pass.proofs.Rewriting.{rewritten_itself}
use Rattle.sq_tail.specs.Candidates.{IsCandidate, described}
use Rattle.sq_tail.proofs.sweep.ends.join_places.Goals as goal

pub returns-then-other-ends-clause-rewritten : goal.returns-then-other-ends-clause-rewritten
returns-then-other-ends-clause-rewritten c = rewritten_itself IsCandidate described c.args.savings c.args.graph.now.graph c.requires.canonical

pub returns-then-other-ends-clause-follows : goal.returns-then-other-ends-clause-follows
returns-then-other-ends-clause-follows c = graph_follows_itself c.args.graph.now.graph
