use Rattle.std.proofs.Common.{length, sym, ap, ◌∙◌, subst}
use Rattle.sq_graph.specs.Calls.{with_calls}
use Rattle.sq_graph.specs.Graph.{Graph}
use Rattle.sq_graph.specs.Rules.{IsGraph}
use Rattle.law_follow.proofs.Following.{graph_follows_itself}
use Rattle.sq_pass.specs.Rewrites.{IsRewritten}
use Rattle.sq_outline.specs.WindowsCandidates.{IsWindowsCandidate, windows_described}
use Rattle.sq_outline.proofs.WindowsUntaken.{none_sweeping, none_swept, ends_swept}
use Rattle.sq_outline.proofs.windows.sweep.sweep_calls.Goals as goal

pub returns-in_err-calls-clause-follows : goal.returns-in_err-calls-clause-follows
returns-in_err-calls-clause-follows c = graph_follows_itself c.args.graph.now.graph

pub returns-in_err-taken-clause-follows : goal.returns-in_err-taken-clause-follows
returns-in_err-taken-clause-follows c = graph_follows_itself c.args.graph.now.graph

pub call_each-requires-clause-sweeping : goal.call_each-requires-clause-sweeping
call_each-requires-clause-sweeping c =
    none_sweeping c.args.graph.now.graph c.in_ok-taken.taken c.in_ok-taken.ensures.taken c.in_ok-taken.ensures.stay c.args.savings c.learn.ensures.rules c.requires.canonical c.requires.words

pub returns-in_err-after-clause-follows : goal.returns-in_err-after-clause-follows
returns-in_err-after-clause-follows c = graph_follows_itself c.args.graph.now.graph

pub with_calls-requires-clause-many : goal.with_calls-requires-clause-many
with_calls-requires-clause-many c =
    let many = c.in_ok-after.ensures.sweeping.fates.fates.many in
    ap (λ fs. length fs) c.fates.ensures ∙ many

pub with_calls-requires-clause-rules : goal.with_calls-requires-clause-rules
with_calls-requires-clause-rules c =
    subst (λ fs. IsGraph (with_calls fs c.args.graph.now.graph)) (sym c.fates.ensures) c.in_ok-after.ensures.sweeping.rules

pub returns-in_err-graph-clause-follows : goal.returns-in_err-graph-clause-follows
returns-in_err-graph-clause-follows c = graph_follows_itself c.args.graph.now.graph

pub returns-clause-rewritten : goal.returns-clause-rewritten
returns-clause-rewritten c =
    let g = c.args.graph.now.graph in
    let starts = none_swept g c.in_ok-taken.taken c.in_ok-taken.ensures.taken c.in_ok-taken.ensures.stay in
    subst (λ (k : Graph). IsRewritten IsWindowsCandidate windows_described c.args.savings c.in_ok-after.after g k) (sym (c.in_ok-graph.ensures.graph ∙ ap (λ fs. with_calls fs g) c.fates.ensures))
    (ends_swept g g c.in_ok-taken.taken c.call_each.new.taken c.args.savings c.in_ok-after.after starts c.in_ok-after.ensures.swept)

pub returns-clause-follows : goal.returns-clause-follows
returns-clause-follows c = (returns-clause-rewritten c).lighter.follows
