use Rattle.std.proofs.Common.{◌≡◌, is_some, ap, subst, ◌∙◌}
use Rattle.sq_graph.specs.Blocks.{block_items}
use Rattle.sq_graph.specs.Uses.{items_uses}
use Rattle.sq_live.proofs.Layouts.{block_at}
use Rattle.sq_lookup.specs.Names.{Adds}
use Rattle.sq_lookup.proofs.Adding.{adds_pushed}
use Rattle.sq_lookup.proofs.uses.use_blocks.Goals as goal

pub items-requires : goal.items-requires
items-requires c =
    let b = block_at c.args.graph.now.graph c.args.names.now c.loop-name.name-index c.requires.rules c.requires.names c.loop-name-test.true in
    ap is_some b.found

pub loop-name-preserved : goal.loop-name-preserved
loop-name-preserved c =
    let b = block_at c.args.graph.now.graph c.args.names.now c.loop-name.name-index c.requires.rules c.requires.names c.loop-name-test.true in
    let items : c.items.result.now ≡ b.block.items = c.items.ensures ∙ ap block_items b.found in
    adds_pushed (λ x. items_uses x.items) _ _ b.block c.args.used.now c.loop-name.used c.use_items.new.used b.more c.loop-name.invariant
    (subst (λ is. Adds (items_uses is) c.loop-name.used c.use_items.new.used) items c.in_ok-use_items.ensures)
