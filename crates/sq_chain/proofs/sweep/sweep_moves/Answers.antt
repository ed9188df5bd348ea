use Rattle.law_follow.proofs.Following.{graph_follows_itself, graph_follows_through}
use Rattle.sq_pass.proofs.Rewriting.{rewritten_itself, rewritten_through}
use Rattle.sq_chain.specs.Candidates.{IsCandidate, described}
use Rattle.sq_chain.proofs.Chains.{no_chains}
use Rattle.sq_chain.proofs.sweep.sweep_moves.Goals as goal

pub returns-in_err-names-clause-follows : goal.returns-in_err-names-clause-follows
returns-in_err-names-clause-follows g c = graph_follows_itself c.args.graph.now.graph

pub returns-in_err-view-clause-follows : goal.returns-in_err-view-clause-follows
returns-in_err-view-clause-follows g c = graph_follows_itself c.args.graph.now.graph

pub returns-in_err-begins-clause-follows : goal.returns-in_err-begins-clause-follows
returns-in_err-begins-clause-follows g c = graph_follows_itself c.args.graph.now.graph

pub returns-in_err-shorts-clause-follows : goal.returns-in_err-shorts-clause-follows
returns-in_err-shorts-clause-follows g c = graph_follows_itself c.args.graph.now.graph

pub returns-in_err-look-clause-follows : goal.returns-in_err-look-clause-follows
returns-in_err-look-clause-follows g c = graph_follows_through c.args.graph.now.graph c.loop-turn.graph.graph c.sweep_behind.new.graph.graph c.loop-turn.invariant.rewritten.lighter.follows c.sweep_behind.ensures.follows

pub loop-turn-init : goal.loop-turn-init
loop-turn-init g c = record {
  rewritten = rewritten_itself IsCandidate described c.args.savings c.args.graph.now.graph c.requires.canonical;
  survey = c.in_ok-view.ensures;
  uses = tt;
  known = no_chains c.args.graph.now.graph c.new-along.result.known.items c.new-along.ensures;
}

pub loop-turn-preserved : goal.loop-turn-preserved
loop-turn-preserved g c = record {
  rewritten = rewritten_through IsCandidate described c.args.savings c.loop-turn.after c.in_ok-look.look.after c.args.graph.now.graph c.loop-turn.graph.graph c.sweep_behind.new.graph.graph c.loop-turn.invariant.rewritten c.in_ok-look.ensures.rewritten;
  survey = c.in_ok-look.ensures.survey;
  uses = c.in_ok-look.ensures.uses;
  known = c.in_ok-look.ensures.known;
}

pub returns-then-look-after-clause-rewritten : goal.returns-then-look-after-clause-rewritten
returns-then-look-after-clause-rewritten g c = rewritten_through IsCandidate described c.args.savings c.loop-turn.after c.in_ok-look.look.after c.args.graph.now.graph c.loop-turn.graph.graph c.sweep_behind.new.graph.graph c.loop-turn.invariant.rewritten c.in_ok-look.ensures.rewritten
