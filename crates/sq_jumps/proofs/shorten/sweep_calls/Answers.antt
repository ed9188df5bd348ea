use Rattle.law_follow.proofs.Following.{graph_follows_itself}
use Rattle.sq_pass.proofs.Rewriting.{rewritten_itself}
use Rattle.sq_jumps.specs.Candidates.{IsCandidate, described}
use Rattle.sq_jumps.proofs.shorten.sweep_calls.Goals as goal

pub returns-then-not-has_part_jump-clause-rewritten : goal.returns-then-not-has_part_jump-clause-rewritten
returns-then-not-has_part_jump-clause-rewritten c = rewritten_itself IsCandidate described c.args.savings c.args.graph.now.graph c.requires.canonical

pub returns-then-not-has_part_jump-clause-follows : goal.returns-then-not-has_part_jump-clause-follows
returns-then-not-has_part_jump-clause-follows c = graph_follows_itself c.args.graph.now.graph

pub returns-in_err-live-clause-follows : goal.returns-in_err-live-clause-follows
returns-in_err-live-clause-follows c = graph_follows_itself c.args.graph.now.graph

pub returns-in_err-names-clause-follows : goal.returns-in_err-names-clause-follows
returns-in_err-names-clause-follows c = graph_follows_itself c.args.graph.now.graph

pub returns-in_err-blocks-clause-follows : goal.returns-in_err-blocks-clause-follows
returns-in_err-blocks-clause-follows c = graph_follows_itself c.args.graph.now.graph
