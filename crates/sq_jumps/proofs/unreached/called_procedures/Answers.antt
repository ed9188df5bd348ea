use Rattle.std.proofs.Common.{◌+◌, take, is_some, ap, sym, ◌∙◌, ◌||◌}
use Rattle.std.specs.List.{flat_map}
use Rattle.sq_graph.specs.Uses.{item_calls}
use Rattle.sq_live.proofs.Layouts.{block_at}
use Rattle.sq_lookup.specs.Names.{is_listed}
use Rattle.sq_jumps.specs.Unreached.{is_called_in}
use Rattle.sq_jumps.proofs.UnreachedCounted.{called_skips, called_adds, items_there}
use Rattle.sq_jumps.proofs.unreached.called_procedures.Goals as goal

pub items-requires : goal.items-requires
items-requires c =
    let b = block_at c.args.graph.now.graph c.args.names.now c.loop-name.name-index c.requires.rules c.requires.names c.loop-name-test.true in
    ap is_some b.found

pub loop-name-preserved-then-not-has : goal.loop-name-preserved-then-not-has
loop-name-preserved-then-not-has c = λ q.
    let g = c.args.graph.now.graph in
    let k = c.loop-name.name-index in
    let b = block_at g c.args.names.now k c.requires.rules c.requires.names c.loop-name-test.true in
    let marked = sym c.has.ensures ∙ c.if-not-has.true in
    let test = ap (is_listed c.args.marks.now) b.has_name ∙ marked in
    c.loop-name.invariant q ∙ sym (called_skips (is_listed c.args.marks.now) (take k g.blocks) (take (k + 1) g.blocks) b.block q b.more test)

pub loop-name-preserved : goal.loop-name-preserved
loop-name-preserved c = λ q.
    let g = c.args.graph.now.graph in
    let k = c.loop-name.name-index in
    let b = block_at g c.args.names.now k c.requires.rules c.requires.names c.loop-name-test.true in
    let marked = sym c.has.ensures ∙ c.if-not-has.false in
    let test = ap (is_listed c.args.marks.now) b.has_name ∙ marked in
    let items = items_there g _ b.block c.items.result.now b.found c.items.ensures in
    c.in_ok-add_calls.ensures.each q
    ∙ ap (λ t. t || is_listed (flat_map item_calls c.items.result.now) q) (c.loop-name.invariant q)
    ∙ ap (λ is. is_called_in (is_listed c.args.marks.now) (take k g.blocks) q || is_listed (flat_map item_calls is) q) items
    ∙ sym (called_adds (is_listed c.args.marks.now) (take k g.blocks) (take (k + 1) g.blocks) b.block q b.more test)
