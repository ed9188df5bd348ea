use Rattle.std.proofs.Common.{sym, subst, arith}
use Rattle.sq_graph.specs.Graph.{Graph}
use Rattle.sq_pass.proofs.Rewriting.{rewritten_on}
use Rattle.sq_drive.specs.Rows.{IsRowCandidate, row_described, row_saves}
use Rattle.sq_drive.proofs.Steps.{none_swept}
use Rattle.sq_drive.proofs.rows.rewrite_earlier.Goals as goal

-- sweeps that saved nothing left the graph as it was
pub rewrite_by_cut-requires-clause-candidate : goal.rewrite_by_cut-requires-clause-candidate
rewrite_by_cut-requires-clause-candidate c =
    subst (λ (h : Graph). IsRowCandidate h c.args.cut.now)
    (sym (none_swept IsRowCandidate row_described c.args.savings c.in_ok-after.after c.args.graph.now.graph c.sweep_in_turn.new.graph.graph
    c.in_ok-after.ensures.rewritten row_saves (let few = c.if-words_of-before.false in omega (arith, few))))
    c.requires.candidate

pub returns-clause-rewritten : goal.returns-clause-rewritten
returns-clause-rewritten c =
    rewritten_on IsRowCandidate row_described c.args.savings c.in_ok-after.after c.count.result c.in_ok-done.done c.args.graph.now.graph c.sweep_in_turn.new.graph.graph c.rewrite_by_cut.new.graph.graph
    c.in_ok-after.ensures.rewritten c.in_ok-done.ensures.made c.in_ok-done.ensures.lighter c.count.ensures.value

pub returns-clause-follows : goal.returns-clause-follows
returns-clause-follows c = (returns-clause-rewritten c).lighter.follows
