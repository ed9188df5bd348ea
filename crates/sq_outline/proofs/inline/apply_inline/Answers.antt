use Rattle.std.proofs.Common.{sym, ap, ◌∙◌, subst}
use Rattle.sq_graph.specs.Graph.{Graph}
use Rattle.sq_graph.specs.Blocks.{HasProcedure}
use Rattle.sq_graph.specs.Operations.{without_procedure}
use Rattle.sq_graph.proofs.OperationRules.{without_procedure_rules}
use Rattle.sq_pass.specs.Applied.{IsApplied}
use Rattle.sq_outline.specs.Inlined.{inlined_all}
use Rattle.sq_outline.proofs.Inlining.{unused, inline_applied}
use Rattle.sq_outline.proofs.RecallTotals.{with_procedure, uncalled_total}
use Rattle.sq_outline.proofs.Totals.{total_by}
use Rattle.sq_outline.proofs.inline.apply_inline.Goals as goal

pub remove_procedure-requires-clause-unused : goal.remove_procedure-requires-clause-unused
remove_procedure-requires-clause-unused c = unused c.inline_blocks.new.graph.graph c.args.procedure c.learn-2.ensures.rules c.inline_blocks.ensures.none

pub remove_procedure-requires-clause-rules : goal.remove_procedure-requires-clause-rules
remove_procedure-requires-clause-rules c =
    let h = c.inline_blocks.new.graph.graph in
    let has : HasProcedure c.inline_blocks.new.graph.graph c.args.procedure = subst (λ (g : Graph). HasProcedure g c.args.procedure) (sym c.inline_blocks.ensures.graph) c.requires.there in
    without_procedure_rules h c.args.procedure c.learn-2.ensures.rules has (unused h c.args.procedure c.learn-2.ensures.rules c.inline_blocks.ensures.none)

pub returns-clause-applied : goal.returns-clause-applied
returns-clause-applied c = λ saving inlinable.
    let g = c.args.graph.now.graph in
    let is = c.remove_procedure.ensures.graph ∙ ap (λ (h : Graph). without_procedure h c.args.procedure) c.inline_blocks.ensures.graph in
    subst (λ (k : Graph). IsApplied saving (inlined_all g c.args.procedure) g k) (sym is) (inline_applied g c.args.procedure saving c.learn.ensures.rules inlinable)

pub returns-clause-total : goal.returns-clause-total
returns-clause-total c =
    let h = c.inline_blocks.new.graph.graph in
    let has : HasProcedure c.inline_blocks.new.graph.graph c.args.procedure = subst (λ (g : Graph). HasProcedure g c.args.procedure) (sym c.inline_blocks.ensures.graph) c.requires.there in
    total_by c.inline_blocks.new.graph c.remove_procedure.new.self (without_procedure h c.args.procedure) (with_procedure h c.args.procedure c.inline_blocks.new.graph.spare) c.remove_procedure.ensures.graph c.remove_procedure.ensures.spare
    (uncalled_total h c.args.procedure c.inline_blocks.new.graph.spare has)
    ∙ c.inline_blocks.ensures.total
