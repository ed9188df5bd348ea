use Rattle.std.proofs.Common.{sym, subst}
use Rattle.std.specs.List.{All}
use Rattle.sq_graph.specs.Blocks.{HasProcedure}
use Rattle.sq_graph.specs.Uses.{item_calls}
use Rattle.sq_graph.proofs.Eachs.{All-each}
use Rattle.sq_graph.proofs.fates.settle_items.Goals as goal

pub settle_item-requires-clause-called : goal.settle_item-requires-clause-called
settle_item-requires-clause-called c =
    subst (λ item. All (HasProcedure c.args.graph.now.graph) (item_calls item)) (sym c.item-item.is)
    (All-each (HasProcedure c.args.graph.now.graph) item_calls c.args.from.now c.requires.called c.loop-item.item-index c.item-item.result c.loop-item-test.true)
