use Rattle.std.proofs.Common.{sym, ap, ◌∙◌, refl, take}
use Rattle.sq_graph.specs.Uses.{item_uses, items_uses}
use Rattle.sq_graph.specs.CanonicalSlots.{marked}
use Rattle.sq_graph.proofs.Marks.{marked_none, distinct-marked, marked_more, uses_more}
use Rattle.sq_graph.proofs.canonical.mark_items.Goals as goal

pub loop-item-init : goal.loop-item-init
loop-item-init c = record { entries = sym (marked_none c.args.slots.now.entries); spare = refl }

pub mark_item-requires : goal.mark_item-requires
mark_item-requires c =
    rw c.loop-item.invariant.entries (distinct-marked (items_uses (take c.loop-item.item-index c.args.items.now)) c.args.slots.now.entries c.requires)

pub loop-item-preserved : goal.loop-item-preserved
loop-item-preserved c =
    let old = c.args.slots.now.entries in
    let done = items_uses (take c.loop-item.item-index c.args.items.now) in
    record {
      entries =
          c.mark_item.ensures.entries
          ∙ ap (marked (item_uses c.item-item.result)) c.loop-item.invariant.entries
          ∙ marked_more (item_uses c.item-item.result) done old
          ∙ ap (λ us. marked us old) (uses_more item_uses c.args.items.now c.loop-item.item-index c.item-item.result c.loop-item-test.true c.item-item.is);
      spare = c.mark_item.ensures.spare ∙ c.loop-item.invariant.spare;
    }
