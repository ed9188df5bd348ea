use Rattle.std.proofs.Common.{◌≡◌, take}
use Rattle.sq_graph.specs.Uses.{items_uses}
use Rattle.sq_graph.specs.CanonicalSlots.{marked}
use Rattle.sq_graph.proofs.canonical.mark_items.Given as goal

abbrev pub invariant-loop-item : goal.invariant-loop-item
invariant-loop-item l = record {
  entries : l.slots.entries ≡ marked (items_uses (take l.item-index l.items)) l.fn.slots.entries;
  spare : l.slots.spare ≡ l.fn.slots.spare;
}
