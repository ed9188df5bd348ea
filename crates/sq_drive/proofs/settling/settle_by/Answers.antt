use Rattle.std.proofs.Common.{Ok, ap, ◌∙◌, sym, subst}
use Rattle.law_follow.specs.Follows.{Follows}
use Rattle.law_follow.proofs.Following.{graph_follows_through}
use Rattle.sq_pass.specs.Rewrites.{IsRewritten}
use Rattle.sq_pass.proofs.Rewriting.{rewritten_itself, rewritten_through}
use Rattle.sq_drive.proofs.settling.settle_by.Goals as goal

pub loop-after-init : goal.loop-after-init
loop-after-init g c = rewritten_itself (g.P.Pass.is_candidate c.args.pass.now) (g.P.Pass.described c.args.pass.now) c.args.savings c.args.graph.now.graph c.requires.canonical

pub loop-after-preserved : goal.loop-after-preserved
loop-after-preserved g c =
    rewritten_through (g.P.Pass.is_candidate c.args.pass.now) (g.P.Pass.described c.args.pass.now) c.args.savings c.loop-after.saved c.in-Some.after c.args.graph.now.graph c.loop-after.graph.graph c.rewrite_some.new.graph.graph
    c.loop-after.invariant (rw c.in-Some.is at c.in_ok-after.ensures.rewritten)

pub returns-in_default-clause-rewritten : goal.returns-in_default-clause-rewritten
returns-in_default-clause-rewritten g c =
    subst (IsRewritten (g.P.Pass.is_candidate c.args.pass.now) (g.P.Pass.described c.args.pass.now) c.args.savings c.loop-after.saved c.args.graph.now.graph) (sym (c.rewrite_some.ensures.none (c.in_ok-after.was ∙ ap Ok c.in_default.is))) c.loop-after.invariant

pub returns-in_default-clause-follows : goal.returns-in_default-clause-follows
returns-in_default-clause-follows g c =
    subst (Follows c.args.graph.now.graph) (sym (c.rewrite_some.ensures.none (c.in_ok-after.was ∙ ap Ok c.in_default.is))) c.loop-after.invariant.lighter.follows

pub returns-in_err-after-clause-follows : goal.returns-in_err-after-clause-follows
returns-in_err-after-clause-follows g c =
    graph_follows_through c.args.graph.now.graph c.loop-after.graph.graph c.rewrite_some.new.graph.graph c.loop-after.invariant.lighter.follows c.rewrite_some.ensures.follows
