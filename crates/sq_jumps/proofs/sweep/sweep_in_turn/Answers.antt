use Rattle.law_follow.proofs.Following.{graph_follows_through}
use Rattle.sq_jumps.specs.Candidates.{IsCandidate, described}
use Rattle.sq_pass.proofs.Rewriting.{rewritten_itself, rewritten_through}
use Rattle.sq_jumps.proofs.sweep.sweep_in_turn.Goals as goal

pub loop-turn-init : goal.loop-turn-init
loop-turn-init c = rewritten_itself IsCandidate described c.args.savings c.args.graph.now.graph c.requires.canonical

pub loop-turn-preserved : goal.loop-turn-preserved
loop-turn-preserved c =
    rewritten_through IsCandidate described c.args.savings c.loop-turn.after c.in_ok-after.after c.args.graph.now.graph c.loop-turn.graph.graph c.sweep_by.new.graph.graph c.loop-turn.invariant c.in_ok-after.ensures.rewritten

pub returns-then-saturating_sub-walks-clause-rewritten : goal.returns-then-saturating_sub-walks-clause-rewritten
returns-then-saturating_sub-walks-clause-rewritten c =
    rewritten_through IsCandidate described c.args.savings c.loop-turn.after c.in_ok-after.after c.args.graph.now.graph c.loop-turn.graph.graph c.sweep_by.new.graph.graph c.loop-turn.invariant c.in_ok-after.ensures.rewritten

pub returns-then-saturating_sub-walks-clause-follows : goal.returns-then-saturating_sub-walks-clause-follows
returns-then-saturating_sub-walks-clause-follows c = (returns-then-saturating_sub-walks-clause-rewritten c).lighter.follows

pub returns-in_err-after-clause-follows : goal.returns-in_err-after-clause-follows
returns-in_err-after-clause-follows c = graph_follows_through c.args.graph.now.graph c.loop-turn.graph.graph c.sweep_by.new.graph.graph c.loop-turn.invariant.lighter.follows c.sweep_by.ensures.follows

pub returns-clause-rewritten : goal.returns-clause-rewritten
returns-clause-rewritten c = c.loop-turn.invariant

pub returns-clause-follows : goal.returns-clause-follows
returns-clause-follows c = c.loop-turn.invariant.lighter.follows
