use Rattle.std.proofs.Common.{sym, subst, arith}
use Rattle.sq_graph.specs.Graph.{Graph}
use Rattle.law_follow.proofs.Following.{graph_follows_itself}
use Rattle.sq_pass.proofs.Rewriting.{rewritten_on}
use Rattle.sq_drive.proofs.Steps.{none_swept}
use Rattle.sq_drive.proofs.settling.rewrite_some.Goals as goal

pub returns-in_err-cut-clause-follows : goal.returns-in_err-cut-clause-follows
returns-in_err-cut-clause-follows g c = graph_follows_itself c.args.graph.now.graph

pub returns-in_default-clause-follows : goal.returns-in_default-clause-follows
returns-in_default-clause-follows g c = graph_follows_itself c.args.graph.now.graph

-- a sweep that saved nothing left the graph as it was
pub rewrite_by_cut-requires-clause-candidate : goal.rewrite_by_cut-requires-clause-candidate
rewrite_by_cut-requires-clause-candidate g c =
    let is_candidate = g.P.Pass.is_candidate c.args.pass.now in
    subst (λ (h : Graph). is_candidate h c.in-Some.cut)
    (sym (none_swept is_candidate (g.P.Pass.described c.args.pass.now) c.args.savings c.in_ok-after.after c.args.graph.now.graph c.sweep.new.graph.graph
    c.in_ok-after.ensures.rewritten (g.P.Pass.saves c.args.pass.now) (let few = c.if-words_of-before.false in omega (arith, few))))
    (rw c.in-Some.is at c.in_ok-cut.ensures.some)

pub returns-clause-rewritten : goal.returns-clause-rewritten
returns-clause-rewritten g c =
    rewritten_on (g.P.Pass.is_candidate c.args.pass.now) (g.P.Pass.described c.args.pass.now) c.args.savings c.in_ok-after.after c.count.result c.in_ok-done.done c.args.graph.now.graph c.sweep.new.graph.graph c.rewrite_by_cut.new.graph.graph
    c.in_ok-after.ensures.rewritten c.in_ok-done.ensures.made c.in_ok-done.ensures.lighter c.count.ensures.value

pub returns-clause-follows : goal.returns-clause-follows
returns-clause-follows g c = (returns-clause-rewritten g c).lighter.follows
