use Rattle.std.proofs.Common.{ap, length, arith}
use Rattle.sq_graph.specs.Renames.{recalled_item}
use Rattle.sq_graph.proofs.Mapped.{mapped_step}
use Rattle.sq_graph.proofs.rename.recall_items.Goals as goal

pub loop-item-preserved : goal.loop-item-preserved
loop-item-preserved g c =
    mapped_step (recalled_item (g.R.Rename.name_of c.args.by.now)) c.args.items.now.items c.loop-item.item-items c.loop-item.item-index c.item-item.result c.recall_item.result
    (omega (arith, ap (λ xs. length xs) c.deref_mut-item-items.ensures.value)) (omega arith) c.loop-item.invariant c.recall_item.ensures
