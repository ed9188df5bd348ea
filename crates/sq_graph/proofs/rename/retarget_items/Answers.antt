use Rattle.std.proofs.Common.{ap, length, ◌<◌, arith, subst, sym}
use Rattle.std.specs.List.{All}
use Rattle.std.proofs.lemmas.List.Elements.{All-get_or}
use Rattle.sq_graph.specs.declared.item.Item.{Item}
use Rattle.sq_graph.specs.Uses.{item_uses}
use Rattle.sq_graph.specs.Renames.{retargeted_item}
use Rattle.sq_graph.proofs.Eachs.{All-each}
use Rattle.sq_graph.proofs.Mapped.{mapped_reads, mapped_step}
use Rattle.sq_graph.proofs.rename.retarget_items.Goals as goal

pub retarget_item-requires : goal.retarget_item-requires
retarget_item-requires g c =
    let f = retargeted_item (g.R.Rename.name_of c.args.by.now) in
    let there : c.loop-item.item-index < length c.args.items.now.items = omega (arith, ap (λ xs. length xs) c.deref_mut-item-items.ensures.value) in
    let same = mapped_reads (retargeted_item (g.R.Rename.name_of c.args.by.now)) c.args.items.now.items c.loop-item.item-items c.loop-item.item-index c.item-item.result there c.loop-item.invariant in
    let known = All-each (g.R.Rename.Knows c.args.by.now) item_uses c.args.items.now.items c.requires in
    subst (λ (x : Item). All (g.R.Rename.Knows c.args.by.now) (item_uses x)) (sym same)
    (All-get_or {X = Item} (λ x. All (g.R.Rename.Knows c.args.by.now) (item_uses x)) c.args.items.now.items c.loop-item.item-index c.item-item.result there known)

pub loop-item-preserved : goal.loop-item-preserved
loop-item-preserved g c =
    mapped_step (retargeted_item (g.R.Rename.name_of c.args.by.now)) c.args.items.now.items c.loop-item.item-items c.loop-item.item-index c.item-item.result c.retarget_item.result
    (omega (arith, ap (λ xs. length xs) c.deref_mut-item-items.ensures.value)) (omega arith) c.loop-item.invariant c.retarget_item.ensures
