use Rattle.std.proofs.Common.{◌≤◌, Ok, ap, ◌∙◌, subst}
use Rattle.sq_graph.specs.Words.{words_of}
use Rattle.sq_pass.proofs.Rewriting.{rewritten_on}
use Rattle.sq_drive.proofs.Steps.{none_swept}
use Rattle.sq_drive.proofs.listed.rewrite_by.Goals as goal

pub returns-in-Some-clause-rewritten : goal.returns-in-Some-clause-rewritten
returns-in-Some-clause-rewritten g c =
    rewritten_on (g.P.Pass.is_candidate c.args.pass.now) (g.P.Pass.described c.args.pass.now) c.args.savings c.in_ok-swept.swept c.count.result c.in-Some.done
    c.args.graph.now.graph c.sweep.new.graph.graph c.rewrite_once.new.graph.graph c.in_ok-swept.ensures.rewritten
    (rw c.in-Some.is at c.in_ok-done.ensures.some) (rw c.in-Some.is at c.in_ok-done.ensures.lighter) c.count.ensures.value

pub returns-in-Some-clause-follows : goal.returns-in-Some-clause-follows
returns-in-Some-clause-follows g c = (returns-in-Some-clause-rewritten g c).lighter.follows

pub returns-in-None-clause-same : goal.returns-in-None-clause-same
returns-in-None-clause-same g c = λ words.
    let same = c.rewrite_once.ensures.none (c.in_ok-done.was ∙ ap Ok c.in-None.is) in
    same ∙ none_swept (g.P.Pass.is_candidate c.args.pass.now) (g.P.Pass.described c.args.pass.now) c.args.savings c.in_ok-swept.swept c.args.graph.now.graph c.sweep.new.graph.graph
    c.in_ok-swept.ensures.rewritten (g.P.Pass.saves c.args.pass.now) (subst (λ k. words_of c.args.graph.now.graph ≤ words_of k) same words)
