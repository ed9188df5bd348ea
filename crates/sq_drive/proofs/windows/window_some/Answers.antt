use Rattle.std.proofs.Common.{Ok, ap, ◌∙◌, subst, arith}
use Rattle.sq_graph.specs.Graph.{Graph}
use Rattle.law_follow.proofs.Following.{graph_follows_itself}
use Rattle.sq_pass.specs.declared.cut.Cut.{Cut}
use Rattle.sq_pass.proofs.Rewriting.{rewritten_on}
use Rattle.sq_outline.specs.WindowsCandidates.{IsWindowsCandidate, windows_described, windows_save}
use Rattle.sq_drive.proofs.Steps.{none_swept}
use Rattle.sq_drive.proofs.windows.window_some.Goals as goal

pub returns-in_err-find-clause-follows : goal.returns-in_err-find-clause-follows
returns-in_err-find-clause-follows c = graph_follows_itself c.args.graph.now.graph

pub returns-then-is_none-clause-follows : goal.returns-then-is_none-clause-follows
returns-then-is_none-clause-follows c = graph_follows_itself c.args.graph.now.graph

pub returns-in_default-clause-none : goal.returns-in_default-clause-none
returns-in_default-clause-none c = λ e.
    c.rewrite_once.ensures.none (c.in_ok-done.was ∙ ap Ok c.in_default.is) ∙ none_swept IsWindowsCandidate windows_described c.args.savings c.in_ok-after.after c.args.graph.now.graph c.sweep_windows.new.graph.graph
    c.in_ok-after.ensures.rewritten windows_save (let few = c.if-words_of-before.false in omega (arith, few))

pub returns-in_default-clause-left : goal.returns-in_default-clause-left
returns-in_default-clause-left c = λ e.
    subst (λ (g : Graph). (cut : Cut) → IsWindowsCandidate g cut → ⊥)
    (none_swept IsWindowsCandidate windows_described c.args.savings c.in_ok-after.after c.args.graph.now.graph c.sweep_windows.new.graph.graph
    c.in_ok-after.ensures.rewritten windows_save (let few = c.if-words_of-before.false in omega (arith, few)))
    (c.rewrite_once.ensures.left (c.in_ok-done.was ∙ ap Ok c.in_default.is))

pub returns-clause-rewritten : goal.returns-clause-rewritten
returns-clause-rewritten c =
    rewritten_on IsWindowsCandidate windows_described c.args.savings c.in_ok-after.after c.count.result c.in-Some.done c.args.graph.now.graph c.sweep_windows.new.graph.graph c.rewrite_once.new.graph.graph
    c.in_ok-after.ensures.rewritten (rw c.in-Some.is at c.in_ok-done.ensures.some) (rw c.in-Some.is at c.in_ok-done.ensures.lighter) c.count.ensures.value

pub returns-clause-follows : goal.returns-clause-follows
returns-clause-follows c = (returns-clause-rewritten c).lighter.follows
