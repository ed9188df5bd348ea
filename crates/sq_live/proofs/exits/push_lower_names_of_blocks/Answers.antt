use Rattle.std.proofs.Common.{◌≡◌, ◌∙◌, ◌++◌, ap, sym, take, is_some, append_assoc}
use Rattle.std.specs.List.{flat_map}
use Rattle.sq_graph.specs.Blocks.{block_items}
use Rattle.sq_graph.specs.Walks.{lower_names}
use Rattle.sq_live.proofs.Layouts.{block_at}
use Rattle.sq_live.proofs.Sequences.{flat_map-push}
use Rattle.sq_live.proofs.exits.push_lower_names_of_blocks.Goals as goal

pub items-requires : goal.items-requires
items-requires c =
    let b = block_at c.args.g.now.graph c.args.names.now c.loop-name.name-index c.requires.rules c.requires.names c.loop-name-test.true in
    ap is_some b.found

pub loop-name-preserved : goal.loop-name-preserved
loop-name-preserved c =
    let blocks = c.args.g.now.graph.blocks in
    let b = block_at c.args.g.now.graph c.args.names.now c.loop-name.name-index c.requires.rules c.requires.names c.loop-name-test.true in
    let items : c.items.result.now ≡ b.block.items = c.items.ensures ∙ ap block_items b.found in
    c.in_ok-push_lower_names.ensures
    ∙ rw (c.loop-name.invariant, items, b.more)
    (append_assoc c.args.targets.now.items (flat_map (λ block. flat_map lower_names block.items) (take c.loop-name.name-index blocks)) (flat_map lower_names b.block.items)
    ∙ ap (λ xs. c.args.targets.now.items ++ xs) (sym (flat_map-push (λ block. flat_map lower_names block.items) (take c.loop-name.name-index blocks) b.block)))
