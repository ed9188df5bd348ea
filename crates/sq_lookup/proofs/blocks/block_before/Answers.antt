use Rattle.std.proofs.Common.{sym, ◌∙◌}
use Rattle.sq_graph.proofs.LinkReads.{value_of-links, previous-links}
use Rattle.sq_lookup.proofs.Previous.{before_next, next_there, previous_none}
use Rattle.sq_lookup.proofs.blocks.block_before.Goals as goal

pub previous-requires : goal.previous-requires
previous-requires c =
    value_of-links c.links.result.now.entries c.args.graph.now.graph.blocks c.args.name c.links.ensures.blocks ∙ c.is_block.ensures.0 c.if-is_block.true

pub returns-then-is_block-clause-some : goal.returns-then-is_block-clause-some
returns-then-is_block-clause-some c = λ m is.
    let g = c.args.graph.now.graph in
    before_next g c.learn.ensures.rules c.args.name (c.is_block.ensures.0 c.if-is_block.true) m
    (sym (previous-links c.links.result.now.entries g.blocks c.args.name c.links.ensures.blocks) ∙ sym c.previous.ensures ∙ is)

pub returns-then-is_block-clause-none : goal.returns-then-is_block-clause-none
returns-then-is_block-clause-none c = λ is m next.
    let g = c.args.graph.now.graph in
    previous_none g c.learn.ensures.rules c.args.name m (sym (previous-links c.links.result.now.entries g.blocks c.args.name c.links.ensures.blocks) ∙ sym c.previous.ensures ∙ is) next

pub returns-else-is_block-clause-none : goal.returns-else-is_block-clause-none
returns-else-is_block-clause-none c = λ is m next.
    let yes = c.is_block.ensures.1 (next_there c.args.graph.now.graph.blocks m c.args.name next) in
    let no = c.if-is_block.false in
    cc
