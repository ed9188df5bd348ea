use Rattle.std.proofs.Common.{◌≡◌, ◌+◌, length, Some, slice_get, ap, sym, ◌∙◌, arith}
use Rattle.std.proofs.lemmas.Option.{slice_get-get_or}
use Rattle.sq_graph.specs.Blocks.{items_of}
use Rattle.sq_lifted.specs.LiveLinks.{ItemDies, ItemsDie}
use Rattle.sq_lifted.proofs.Dying.{items_few, marks_then, marks_same, items_more, items_fewer}
use Rattle.sq_lifted.proofs.live_links.mark_block.Goals as goal

pub overflow_cast-place : goal.overflow_cast-place
overflow_cast-place c =
    let few = items_few c.args.g.now.graph c.args.block in
    let same : length c.items-item-items.result.now ≡ length (items_of c.args.g.now.graph c.args.block) = ap length c.items-item-items.ensures in
    let small = c.learn.ensures.small.items in
    let below = c.loop-place-test.true in
    omega (arith, few, same, small, below)

pub mark_item-requires-clause-item : goal.mark_item-requires-clause-item
mark_item-requires-clause-item c =
    ap (λ items. slice_get items c.loop-place.place) (sym c.items-item-items.ensures) ∙ slice_get-get_or c.items-item-items.result.now c.loop-place.place c.item-item.result c.loop-place-test.true ∙ ap Some (sym c.item-item.is)

pub mark_item-requires-clause-small : goal.mark_item-requires-clause-small
mark_item-requires-clause-small c =
    let few = items_few c.args.g.now.graph c.args.block in
    let same : length c.items-item-items.result.now ≡ length (items_of c.args.g.now.graph c.args.block) = ap length c.items-item-items.ensures in
    let small = c.learn.ensures.small.items in
    let below = c.loop-place-test.true in
    omega (arith, few, same, small, below)

pub loop-place-preserved : goal.loop-place-preserved
loop-place-preserved c =
    let g = c.args.g.now.graph in
    let block = c.args.block in
    let place = c.loop-place.place in
    let item = c.item-item.result in
    let there : slice_get (items_of c.args.g.now.graph c.args.block) c.loop-place.place ≡ Some c.item-item.result =
    ap (λ items. slice_get items c.loop-place.place) (sym c.items-item-items.ensures) ∙ slice_get-get_or c.items-item-items.result.now c.loop-place.place c.item-item.result c.loop-place-test.true ∙ ap Some (sym c.item-item.is)
    in
    marks_same (λ q. ItemsDie g block place q × ItemDies g block place item q) (ItemsDie g block (place + 1)) c.args.flags.now.items c.mark_item.new.flags.items
    (marks_then (ItemsDie g block place) (ItemDies g block place item) c.args.flags.now.items c.loop-place.flags.items c.mark_item.new.flags.items c.loop-place.invariant c.mark_item.ensures)
    (items_more g block place item there)
    (items_fewer g block place item there)
