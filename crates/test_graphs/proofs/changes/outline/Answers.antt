use Rattle.std.proofs.Common.{◌+◌, List, subst}
use Rattle.std.specs.List.{slice_range}
use Rattle.sq_graph.specs.declared.item.Item.{Item}
use Rattle.sq_graph.specs.Rules.{ProcedureFits}
use Rattle.sq_graph.proofs.OperationRules.{outlined_rules}
use Rattle.test_graphs.proofs.changes.outline.Goals as goal

pub outline-requires-clause-rules : goal.outline-requires-clause-rules
outline-requires-clause-rules c =
    let link = c.in_ok-link.link in
    outlined_rules c.args.graph.now.graph c.args.block c.args.at c.args.count link c.learn.ensures.rules (c.is_block.ensures c.if-not-is_block.false)
    (subst (λ (items : List Item). ProcedureFits (record { link = link; body = slice_range items c.args.at (c.args.at + c.args.count) })) c.items-items.ensures (c.body_fits.ensures c.if-not-body_fits.false))
