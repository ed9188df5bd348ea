use Rattle.std.proofs.lemmas.Result.{IfOk-weaker}
use Rattle.sq_pass.specs.Rewrites.{IsRewritten}
use Rattle.sq_pass.proofs.Rewriting.{rewritten_itself, rewritten_through}
use Rattle.sq_outline.specs.Candidates.{IsCandidate, described}
use Rattle.law_follow.proofs.Following.{graph_follows_itself}
use Rattle.sq_outline.proofs.inline.sweep.sweep_inlines.Goals as goal

pub returns-clause-rewritten : goal.returns-clause-rewritten
returns-clause-rewritten c =
    let old = c.args.graph.now.graph in
    let mid = c.try_each.new.graph.graph in
    let new = c.try_each-2.new.graph.graph in
    let at = c.in_ok-after.after in
    IfOk-weaker c.try_each-2.result (λ after. IsRewritten IsCandidate described at after mid new) (λ after. IsRewritten IsCandidate described c.args.savings after old new)
    (λ after more. rewritten_through IsCandidate described c.args.savings at after old mid new c.in_ok-after.ensures.rewritten more) c.try_each-2.ensures.rewritten

pub returns-in_err-any_would_save-clause-follows : goal.returns-in_err-any_would_save-clause-follows
returns-in_err-any_would_save-clause-follows c = graph_follows_itself c.args.graph.now.graph

pub returns-then-not-branch-clause-follows : goal.returns-then-not-branch-clause-follows
returns-then-not-branch-clause-follows c = graph_follows_itself c.args.graph.now.graph

pub returns-in_err-unfitting-clause-follows : goal.returns-in_err-unfitting-clause-follows
returns-in_err-unfitting-clause-follows c = graph_follows_itself c.args.graph.now.graph

pub returns-then-not-branch-clause-rewritten : goal.returns-then-not-branch-clause-rewritten
returns-then-not-branch-clause-rewritten c = rewritten_itself IsCandidate described c.args.savings c.args.graph.now.graph c.requires.canonical
