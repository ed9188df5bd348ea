use Rattle.std.proofs.lemmas.Result.{IfOk-weaker}
use Rattle.law_follow.proofs.Following.{graph_follows_through}
use Rattle.sq_pass.specs.Rewrites.{IsRewritten}
use Rattle.sq_pass.proofs.Rewriting.{rewritten_through}
use Rattle.sq_outline.specs.Candidates.{IsCandidate, described}
use Rattle.sq_outline.proofs.outlines.OutlinesPass.sweep.Goals as goal

pub returns-clause-rewritten : goal.returns-clause-rewritten
returns-clause-rewritten c =
    let old = c.args.graph.now.graph in
    let mid = c.sweep.new.graph.graph in
    let left = c.sweep_recalls.new.graph.graph in
    let new = c.sweep_inlines.new.graph.graph in
    let made = c.in_ok-made.made in
    let recalled = c.in_ok-recalled.recalled in
    let before = rewritten_through IsCandidate described c.args.savings made recalled old mid left c.in_ok-made.ensures.rewritten c.in_ok-recalled.ensures.rewritten in
    IfOk-weaker c.sweep_inlines.result (λ after. IsRewritten IsCandidate described recalled after left new) (λ after. IsRewritten IsCandidate described c.args.savings after old new)
    (λ after inlined. rewritten_through IsCandidate described c.args.savings recalled after old left new before inlined) c.sweep_inlines.ensures.rewritten

pub returns-clause-follows : goal.returns-clause-follows
returns-clause-follows c =
    let old = c.args.graph.now.graph in
    let mid = c.sweep.new.graph.graph in
    let left = c.sweep_recalls.new.graph.graph in
    let new = c.sweep_inlines.new.graph.graph in
    graph_follows_through old left new (graph_follows_through old mid left c.sweep.ensures.follows c.sweep_recalls.ensures.follows) c.sweep_inlines.ensures.follows

pub returns-in_err-recalled-clause-follows : goal.returns-in_err-recalled-clause-follows
returns-in_err-recalled-clause-follows c =
    graph_follows_through c.args.graph.now.graph c.sweep.new.graph.graph c.sweep_recalls.new.graph.graph c.sweep.ensures.follows c.sweep_recalls.ensures.follows
