use Rattle.std.proofs.Common.{List, ◌<◌, ◌^◌, length, sym, subst}
use Rattle.std.specs.List.{All}
use Rattle.sq_graph.specs.Rules.{ItemFits}
use Rattle.sq_graph.specs.declared.item.Item.{Item}
use Rattle.sq_layout.proofs.Walks.{items_few}
use Rattle.sq_outline.proofs.Printing.{items_fit}
use Rattle.sq_outline.proofs.groups.block_print.Goals as goal

pub print-requires-clause-fit : goal.print-requires-clause-fit
print-requires-clause-fit c = subst (λ (items : List Item). All ItemFits items) (sym c.items.ensures) (items_fit c.args.graph.now.graph c.args.block c.learn.ensures.rules)

pub print-requires-clause-few : goal.print-requires-clause-few
print-requires-clause-few c = subst (λ (items : List Item). length items < 2 ^ 31) (sym c.items.ensures) (items_few c.args.graph.now.graph c.args.block c.learn.ensures.few)
