use Rattle.std.proofs.Common.{◌≡◌, is_some, ap, ◌∙◌, arith}
use Rattle.sq_graph.specs.Blocks.{block_items}
use Rattle.sq_graph.specs.Uses.{items_uses}
use Rattle.sq_live.proofs.Layouts.{block_at}
use Rattle.sq_lookup.specs.Counts.{times_named}
use Rattle.sq_lookup.proofs.Counting.{times_last}
use Rattle.sq_lookup.proofs.counts.add_blocks.Goals as goal

pub items-requires : goal.items-requires
items-requires c =
    let b = block_at c.args.graph.now.graph c.args.names.now c.loop-name.name-index c.requires.rules c.requires.names c.loop-name-test.true in
    ap is_some b.found

pub loop-name-preserved : goal.loop-name-preserved
loop-name-preserved c = λ n.
    let b = block_at c.args.graph.now.graph c.args.names.now c.loop-name.name-index c.requires.rules c.requires.names c.loop-name-test.true in
    let items : c.items.result.now ≡ b.block.items = c.items.ensures ∙ ap block_items b.found in
    omega (
      arith,
      c.in_ok-add_items.ensures n,
      ap (λ is. times_named (items_uses is) n) items,
      c.loop-name.invariant n,
      times_last (λ x. items_uses x.items) _ _ b.block n b.more,
    )
