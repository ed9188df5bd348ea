use Rattle.law_follow.proofs.Following.{graph_follows_through}
use Rattle.sq_pass.proofs.Rewriting.{rewritten_itself, rewritten_through}
use Rattle.sq_tail.specs.Candidates.{IsCandidate, described}
use Rattle.sq_tail.proofs.sweep.bodies.drop_pairs.Goals as goal

pub loop-pair-init : goal.loop-pair-init
loop-pair-init c = record {
  rewritten = rewritten_itself IsCandidate described c.args.savings c.args.graph.now.graph c.requires.canonical;
  uses = c.requires.uses;
  told = c.requires.told;
}

pub returns-in_err-after-clause-follows : goal.returns-in_err-after-clause-follows
returns-in_err-after-clause-follows c = graph_follows_through c.args.graph.now.graph c.loop-pair.graph.graph c.drop_pair.new.graph.graph c.loop-pair.invariant.rewritten.lighter.follows c.drop_pair.ensures.follows

pub loop-pair-preserved : goal.loop-pair-preserved
loop-pair-preserved c = record {
  rewritten = rewritten_through IsCandidate described c.args.savings c.loop-pair.after c.in_ok-after.after c.args.graph.now.graph c.loop-pair.graph.graph c.drop_pair.new.graph.graph c.loop-pair.invariant.rewritten c.in_ok-after.ensures.rewritten;
  uses = c.in_ok-after.ensures.uses;
  told = c.in_ok-after.ensures.told;
}
