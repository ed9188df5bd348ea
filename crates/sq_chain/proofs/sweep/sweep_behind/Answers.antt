use Rattle.std.proofs.Common.{subst}
use Rattle.std.specs.Prelude.{IfSome}
use Rattle.law_follow.proofs.Following.{graph_follows_through}
use Rattle.sq_pass.specs.Rewrites.{IsRewritten}
use Rattle.sq_pass.proofs.Rewriting.{rewritten_itself, rewritten_through}
use Rattle.sq_chain.specs.Candidates.{IsCandidate, described}
use Rattle.sq_chain.proofs.Chains.{no_chains}
use Rattle.sq_chain.proofs.sweep.sweep_behind.Goals as goal

pub loop-name-init : goal.loop-name-init
loop-name-init g c = record {
  rewritten = rewritten_itself IsCandidate described c.args.savings c.args.graph.now.graph c.requires.canonical;
  survey = c.requires.survey;
  uses = c.requires.uses;
  known = c.requires.known;
}

pub returns-in_err-corners-clause-follows : goal.returns-in_err-corners-clause-follows
returns-in_err-corners-clause-follows g c = c.loop-name.invariant.rewritten.lighter.follows

pub returns-in_err-wants-clause-follows : goal.returns-in_err-wants-clause-follows
returns-in_err-wants-clause-follows g c = c.loop-name.invariant.rewritten.lighter.follows

pub returns-in_err-next-clause-follows : goal.returns-in_err-next-clause-follows
returns-in_err-next-clause-follows g c = graph_follows_through c.args.graph.now.graph c.loop-name.graph.graph c.sweep_corners.new.graph.graph c.loop-name.invariant.rewritten.lighter.follows c.sweep_corners.ensures.follows

pub loop-name-preserved : goal.loop-name-preserved
loop-name-preserved g c = record {
  rewritten = rewritten_through IsCandidate described c.args.savings c.loop-name.after c.in-Some-2.next c.args.graph.now.graph c.loop-name.graph.graph c.sweep_corners.new.graph.graph c.loop-name.invariant.rewritten
      (subst (λ o. IfSome o (λ after. IsRewritten IsCandidate described c.loop-name.after after c.loop-name.graph.graph c.sweep_corners.new.graph.graph)) c.in-Some-2.is c.in_ok-next.ensures.rewritten);
  survey = c.in_ok-next.ensures.survey;
  uses = c.in_ok-next.ensures.uses;
  known = no_chains c.sweep_corners.new.graph.graph c.forget.new.self.known.items c.forget.ensures;
}

pub returns-then-branch-clause-rewritten : goal.returns-then-branch-clause-rewritten
returns-then-branch-clause-rewritten g c = rewritten_through IsCandidate described c.args.savings c.loop-name.after c.in-Some-2.next c.args.graph.now.graph c.loop-name.graph.graph c.sweep_corners.new.graph.graph c.loop-name.invariant.rewritten
    (subst (λ o. IfSome o (λ after. IsRewritten IsCandidate described c.loop-name.after after c.loop-name.graph.graph c.sweep_corners.new.graph.graph)) c.in-Some-2.is c.in_ok-next.ensures.rewritten)
