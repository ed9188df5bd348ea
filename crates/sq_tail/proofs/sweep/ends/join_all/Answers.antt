use Rattle.law_follow.proofs.Following.{graph_follows_through}
use Rattle.sq_pass.proofs.Rewriting.{rewritten_itself, rewritten_through}
use Rattle.sq_tail.specs.Candidates.{IsCandidate, described}
use Rattle.sq_tail.proofs.sweep.ends.join_all.Goals as goal

pub loop-place-init : goal.loop-place-init
loop-place-init c = record {
  rewritten = rewritten_itself IsCandidate described c.args.savings c.args.graph.now.graph c.requires.canonical;
  uses = c.requires.uses;
}

pub returns-in_err-after-clause-follows : goal.returns-in_err-after-clause-follows
returns-in_err-after-clause-follows c = graph_follows_through c.args.graph.now.graph c.loop-place.graph.graph c.join_each.new.graph.graph c.loop-place.invariant.rewritten.lighter.follows c.join_each.ensures.follows

pub loop-place-preserved : goal.loop-place-preserved
loop-place-preserved c = record {
  rewritten = rewritten_through IsCandidate described c.args.savings c.loop-place.after c.in_ok-after.after c.args.graph.now.graph c.loop-place.graph.graph c.join_each.new.graph.graph c.loop-place.invariant.rewritten c.in_ok-after.ensures.rewritten;
  uses = c.in_ok-after.ensures.uses;
}
