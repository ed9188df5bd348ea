use Rattle.std.proofs.Common.{◌≢◌, ◌+◌, length, sym, ap, ◌∙◌, subst}
use Rattle.std.specs.List.{All}
use Rattle.sq_graph.specs.Graph.{Graph}
use Rattle.sq_graph.specs.Blocks.{body_of}
use Rattle.sq_graph.specs.Operations.{redirected_calls, without_procedure}
use Rattle.sq_graph.specs.Rules.{IsGraph}
use Rattle.sq_graph.specs.Uses.{calls}
use Rattle.sq_graph.proofs.OperationRules.{redirected_calls_unused}
use Rattle.sq_pass.specs.Applied.{IsApplied}
use Rattle.sq_outline.specs.Recalled.{without_double}
use Rattle.sq_outline.proofs.Recalling.{given_rules, still_there, left_rules, double_applied}
use Rattle.sq_outline.proofs.RecallTotals.{with_procedure, double_total}
use Rattle.sq_outline.proofs.Totals.{total_by}
use Rattle.sq_outline.proofs.recall.apply_recall.Goals as goal

pub redirect_calls-requires : goal.redirect_calls-requires
redirect_calls-requires c =
    record { rules = given_rules c.args.graph.now.graph c.args.stays c.args.goes c.learn.ensures.rules c.requires }

pub remove_procedure-requires-clause-unused : goal.remove_procedure-requires-clause-unused
remove_procedure-requires-clause-unused c =
    subst (λ (h : Graph). All (λ n. n ≢ c.args.goes) (calls h)) (sym c.redirect_calls.ensures.graph)
    (redirected_calls_unused c.args.graph.now.graph c.args.goes c.args.stays c.requires.apart c.learn.ensures.rules)

pub remove_procedure-requires-clause-rules : goal.remove_procedure-requires-clause-rules
remove_procedure-requires-clause-rules c =
    subst (λ (h : Graph). IsGraph (without_procedure h c.args.goes)) (sym c.redirect_calls.ensures.graph)
    (left_rules c.args.graph.now.graph c.args.stays c.args.goes c.learn.ensures.rules c.requires)

pub returns-clause-graph : goal.returns-clause-graph
returns-clause-graph c = c.remove_procedure.ensures.graph ∙ ap (λ (h : Graph). without_procedure h c.args.goes) c.redirect_calls.ensures.graph

pub returns-clause-applied : goal.returns-clause-applied
returns-clause-applied c =
    let g = c.args.graph.now.graph in
    subst (λ (k : Graph). IsApplied (length (body_of g c.args.goes) + 1) (without_double g c.args.stays c.args.goes) g k) (sym (returns-clause-graph c))
    (double_applied g c.args.stays c.args.goes c.learn.ensures.rules c.requires)

pub returns-clause-total : goal.returns-clause-total
returns-clause-total c =
    let g = c.args.graph.now.graph in
    let h = redirected_calls g c.args.goes c.args.stays in
    let spare = c.args.graph.now.spare in
    total_by c.args.graph.now c.remove_procedure.new.self (without_double g c.args.stays c.args.goes) (with_procedure h c.args.goes spare)
    (c.remove_procedure.ensures.graph ∙ ap (λ (h : Graph). without_procedure h c.args.goes) c.redirect_calls.ensures.graph)
    (c.remove_procedure.ensures.spare ∙ ap (λ (h : Graph). with_procedure h c.args.goes c.redirect_calls.new.self.spare) c.redirect_calls.ensures.graph ∙ ap (with_procedure h c.args.goes) c.redirect_calls.ensures.spare)
    (double_total g c.args.stays c.args.goes spare (still_there g c.args.stays c.args.goes c.learn.ensures.rules c.requires))
