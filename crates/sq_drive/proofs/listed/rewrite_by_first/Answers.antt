use Rattle.std.proofs.Common.{sym, subst, arith}
use Rattle.std.specs.List.{All}
use Rattle.std.proofs.lemmas.List.{take_all}
use Rattle.sq_graph.specs.Graph.{Graph}
use Rattle.law_follow.specs.Follows.{Follows}
use Rattle.law_follow.proofs.Following.{graph_follows_itself}
use Rattle.sq_pass.specs.declared.cut.Cut.{Cut}
use Rattle.sq_pass.specs.Rewrites.{IsRewrite, IsRewriteOfOne, IsRewrittenByAll}
use Rattle.sq_pass.proofs.Rewriting.{stepped_itself, stepped_wider}
use Rattle.sq_drive.proofs.listed.rewrite_by_first.Goals as goal

pub returns-then-words_of-before-clause-rewritten : goal.returns-then-words_of-before-clause-rewritten
returns-then-words_of-before-clause-rewritten g c =
    let pass = c.pass-item.result in
    subst (λ (old : Graph). IsRewrittenByAll g.P.Pass.is_candidate g.P.Pass.described c.args.passes.now c.args.savings c.in_ok-after.after old c.rewrite_by.new.graph.graph) c.loop-pass.invariant.same
    (stepped_wider (IsRewrite (g.P.Pass.is_candidate pass) (g.P.Pass.described pass)) (IsRewriteOfOne g.P.Pass.is_candidate g.P.Pass.described c.args.passes.now)
    (λ done old new rewrite. record { pass = pass; listed = (c.loop-pass.pass-index, omega (arith, c.loop-pass-test.true), sym c.pass-item.is); rewrite = rewrite })
    c.args.savings c.in_ok-after.after c.loop-pass.graph.graph c.rewrite_by.new.graph.graph c.in_ok-after.ensures.rewritten)

pub returns-clause-rewritten : goal.returns-clause-rewritten
returns-clause-rewritten g c =
    subst (λ (new : Graph). IsRewrittenByAll g.P.Pass.is_candidate g.P.Pass.described c.args.passes.now c.args.savings c.args.savings c.args.graph.now.graph new) (sym c.loop-pass.invariant.same)
    (stepped_itself (IsRewriteOfOne g.P.Pass.is_candidate g.P.Pass.described c.args.passes.now) c.args.savings c.args.graph.now.graph c.requires.canonical)

pub returns-clause-left : goal.returns-clause-left
returns-clause-left g c = λ same.
    subst (λ passes. All (λ pass. (cut : Cut) → ¬ g.P.Pass.is_candidate pass c.loop-pass.graph.graph cut) passes) (take_all c.loop-pass.pass-index c.args.passes.now (omega arith)) c.loop-pass.invariant.left

pub returns-clause-follows : goal.returns-clause-follows
returns-clause-follows g c =
    subst (Follows c.args.graph.now.graph) (sym c.loop-pass.invariant.same) (graph_follows_itself c.args.graph.now.graph)
