use Rattle.sq_num.specs.declared.packed.TheConstants.Savings.{NONE}
use Rattle.law_follow.proofs.Following.{graph_follows_through}
use Rattle.sq_pass.specs.Rewrites.{IsRewriteOfOne}
use Rattle.sq_pass.proofs.Rewriting.{stepped_itself, stepped_through}
use Rattle.sq_drive.proofs.listed.settle_by_each.Goals as goal

pub loop-savings-init : goal.loop-savings-init
loop-savings-init g c = stepped_itself (IsRewriteOfOne g.P.Pass.is_candidate g.P.Pass.described c.args.passes.now) NONE c.args.graph.now.graph c.requires.canonical

pub loop-savings-preserved : goal.loop-savings-preserved
loop-savings-preserved g c =
    stepped_through (IsRewriteOfOne g.P.Pass.is_candidate g.P.Pass.described c.args.passes.now) NONE c.loop-savings.savings c.in_ok-savings.savings
    c.args.graph.now.graph c.loop-savings.graph.graph c.rewrite_by_first.new.graph.graph c.loop-savings.invariant c.in_ok-savings.ensures.rewritten

pub returns-then-words_of-before-clause-rewritten : goal.returns-then-words_of-before-clause-rewritten
returns-then-words_of-before-clause-rewritten g c =
    stepped_through (IsRewriteOfOne g.P.Pass.is_candidate g.P.Pass.described c.args.passes.now) NONE c.loop-savings.savings c.in_ok-savings.savings
    c.args.graph.now.graph c.loop-savings.graph.graph c.rewrite_by_first.new.graph.graph c.loop-savings.invariant c.in_ok-savings.ensures.rewritten

pub returns-then-words_of-before-clause-follows : goal.returns-then-words_of-before-clause-follows
returns-then-words_of-before-clause-follows g c =
    graph_follows_through c.args.graph.now.graph c.loop-savings.graph.graph c.rewrite_by_first.new.graph.graph c.loop-savings.invariant.lighter.follows c.rewrite_by_first.ensures.follows

pub returns-in_err-savings-clause-follows : goal.returns-in_err-savings-clause-follows
returns-in_err-savings-clause-follows g c =
    graph_follows_through c.args.graph.now.graph c.loop-savings.graph.graph c.rewrite_by_first.new.graph.graph c.loop-savings.invariant.lighter.follows c.rewrite_by_first.ensures.follows
