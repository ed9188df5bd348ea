use Rattle.std.proofs.Common.{◌<◌, ◌^◌, List, length, sym, ap, subst, arith}
use Rattle.std.specs.List.{All}
use Rattle.sq_graph.specs.declared.item.Item.{Item}
use Rattle.sq_graph.specs.Rules.{ItemFits}
use Rattle.sq_layout.proofs.Walks.{items_few}
use Rattle.sq_tail.proofs.BodiesPrinted.{items_fit}
use Rattle.sq_tail.proofs.bodies.onward.rung.Goals as goal

pub overflow_cast-items : goal.overflow_cast-items
overflow_cast-items c = let few = items_few c.args.graph.now.graph c.args.block c.learn.ensures.few in let is = ap length c.items-items.ensures in omega arith

pub items_print-print-requires-clause-items : goal.items_print-print-requires-clause-items
items_print-print-requires-clause-items c = subst (λ (items : List Item). All ItemFits items) (sym c.items-items.ensures) (items_fit c.args.graph.now.graph c.args.block c.learn.ensures.rules)

pub items_print-print-requires-clause-few : goal.items_print-print-requires-clause-few
items_print-print-requires-clause-few c = subst (λ (items : List Item). length items < 2 ^ 31) (sym c.items-items.ensures) (items_few c.args.graph.now.graph c.args.block c.learn.ensures.few)
