use Rattle.std.proofs.Common.{◌*◌, sym, ap, subst, arith}
use Rattle.sq_arena.specs.Entries.{through}
use Rattle.sq_graph.specs.Blocks.{named, HasBlock}
use Rattle.sq_layout.proofs.Walks.{words_here}
use Rattle.sq_chain.specs.Seams.{size}
use Rattle.sq_chain.specs.Places.{placed_at}
use Rattle.sq_chain.proofs.Exchanging.{start_is, end_is, through_few, last_block, seams_back, seams_ahead, are_seams_back, are_seams_ahead}
use Rattle.sq_chain.proofs.Orders.{last_has}
use Rattle.sq_chain.proofs.Reordered.{head, jumping}
use Rattle.sq_chain.proofs.seams.seams_of.Goals as goal

pub block_words-requires : goal.block_words-requires
block_words-requires c =
    let g = c.args.graph.now.graph in
    subst (HasBlock g) (sym c.requires.end) (last_has g c.args.from c.args.to c.learn.ensures.rules c.requires.movable)

pub overflow_add-behind : goal.overflow_add-behind
overflow_add-behind c =
    let g = c.args.graph.now.graph in
    let block = last_block g c.args.from c.args.to c.learn.ensures.rules c.requires.movable c.args.end c.requires.end in
    let words = words_here g c.args.end c.block_words.result block.0 block.1 c.block_words.ensures in
    let end = end_is g c.learn.ensures.rules c.args.end block.0 block.1 (placed_at c.args.addresses.now) c.requires.addresses in
    omega (arith, words, end, c.address.ensures, c.from.ensures, through_few g c.args.end c.learn.ensures.few)

pub overflow_add-after : goal.overflow_add-after
overflow_add-after c =
    let g = c.args.graph.now.graph in
    let jump = jumping g c.args.from c.args.to c.learn.ensures.rules c.requires.movable in
    let words = words_here g c.args.from c.block_words-2.result jump.0 jump.1 c.block_words-2.ensures in
    let end = end_is g c.learn.ensures.rules c.args.from jump.0 jump.1 (placed_at c.args.addresses.now) c.requires.addresses in
    omega (arith, words, end, c.address-2.ensures, c.from-2.ensures, through_few g c.args.from c.learn.ensures.few)

pub returns-then-after-start-clause-exchanged : goal.returns-then-after-start-clause-exchanged
returns-then-after-start-clause-exchanged c =
    let g = c.args.graph.now.graph in
    let rules = c.learn.ensures.rules in
    let head = head g c.args.from c.args.to rules c.requires.movable in
    let start = start_is g rules c.args.to head.0 head.1 (placed_at c.args.addresses.now) c.requires.addresses in
    let jump = jumping g c.args.from c.args.to rules c.requires.movable in
    let jump_words = words_here g c.args.from c.block_words-2.result jump.0 jump.1 c.block_words-2.ensures in
    let after = end_is g rules c.args.from jump.0 jump.1 (placed_at c.args.addresses.now) c.requires.addresses in
    let block = last_block g c.args.from c.args.to c.learn.ensures.rules c.requires.movable c.args.end c.requires.end in
    let words = words_here g c.args.end c.block_words.result block.0 block.1 c.block_words.ensures in
    let behind = end_is g rules c.args.end block.0 block.1 (placed_at c.args.addresses.now) c.requires.addresses in
    let same = ap (λ n. 4 * size (through (named g.blocks) n)) c.requires.end in
    seams_back g c.args.from c.args.to rules c.requires.movable _ c.learn.ensures.few
    (omega (arith, after, jump_words, c.address-2.ensures, c.from-2.ensures)) (omega (arith, start, c.address-start.ensures)) (omega (arith, behind, words, same, c.address.ensures, c.from.ensures)) (omega (arith, c.if-after-start.true))

pub returns-clause-exchanged : goal.returns-clause-exchanged
returns-clause-exchanged c =
    let g = c.args.graph.now.graph in
    let rules = c.learn.ensures.rules in
    let head = head g c.args.from c.args.to rules c.requires.movable in
    let start = start_is g rules c.args.to head.0 head.1 (placed_at c.args.addresses.now) c.requires.addresses in
    let jump = jumping g c.args.from c.args.to rules c.requires.movable in
    let jump_words = words_here g c.args.from c.block_words-2.result jump.0 jump.1 c.block_words-2.ensures in
    let after = end_is g rules c.args.from jump.0 jump.1 (placed_at c.args.addresses.now) c.requires.addresses in
    let block = last_block g c.args.from c.args.to c.learn.ensures.rules c.requires.movable c.args.end c.requires.end in
    let words = words_here g c.args.end c.block_words.result block.0 block.1 c.block_words.ensures in
    let behind = end_is g rules c.args.end block.0 block.1 (placed_at c.args.addresses.now) c.requires.addresses in
    let same = ap (λ n. 4 * size (through (named g.blocks) n)) c.requires.end in
    seams_ahead g c.args.from c.args.to rules c.requires.movable _ c.learn.ensures.few
    (omega (arith, start, c.address-start.ensures)) (omega (arith, behind, words, same, c.address.ensures, c.from.ensures)) (omega (arith, after, jump_words, c.address-2.ensures, c.from-2.ensures)) (omega (arith, c.if-after-start.false))

pub returns-then-after-start-clause-whole : goal.returns-then-after-start-clause-whole
returns-then-after-start-clause-whole c =
    let g = c.args.graph.now.graph in
    let rules = c.learn.ensures.rules in
    let head = head g c.args.from c.args.to rules c.requires.movable in
    let start = start_is g rules c.args.to head.0 head.1 (placed_at c.args.addresses.now) c.requires.addresses in
    let from = jumping g c.args.from c.args.to rules c.requires.movable in
    let first = start_is g rules c.args.from from.0 from.1 (placed_at c.args.addresses.now) c.requires.addresses in
    let block = last_block g c.args.from c.args.to c.learn.ensures.rules c.requires.movable c.args.end c.requires.end in
    let last = start_is g rules c.args.end block.0 block.1 (placed_at c.args.addresses.now) c.requires.addresses in
    record {
      first = omega (arith, start, first, last, c.address.ensures, c.address-2.ensures, c.address-start.ensures, c.from.ensures, c.from-2.ensures);
      second = omega (arith, start, first, last, c.address.ensures, c.address-2.ensures, c.address-start.ensures, c.from.ensures, c.from-2.ensures);
      end = omega (arith, start, first, last, c.address.ensures, c.address-2.ensures, c.address-start.ensures, c.from.ensures, c.from-2.ensures);
    }

pub returns-clause-whole : goal.returns-clause-whole
returns-clause-whole c =
    let g = c.args.graph.now.graph in
    let rules = c.learn.ensures.rules in
    let head = head g c.args.from c.args.to rules c.requires.movable in
    let start = start_is g rules c.args.to head.0 head.1 (placed_at c.args.addresses.now) c.requires.addresses in
    let from = jumping g c.args.from c.args.to rules c.requires.movable in
    let first = start_is g rules c.args.from from.0 from.1 (placed_at c.args.addresses.now) c.requires.addresses in
    let block = last_block g c.args.from c.args.to c.learn.ensures.rules c.requires.movable c.args.end c.requires.end in
    let last = start_is g rules c.args.end block.0 block.1 (placed_at c.args.addresses.now) c.requires.addresses in
    record {
      first = omega (arith, start, first, last, c.address.ensures, c.address-2.ensures, c.address-start.ensures, c.from.ensures, c.from-2.ensures);
      second = omega (arith, start, first, last, c.address.ensures, c.address-2.ensures, c.address-start.ensures, c.from.ensures, c.from-2.ensures);
      end = omega (arith, start, first, last, c.address.ensures, c.address-2.ensures, c.address-start.ensures, c.from.ensures, c.from-2.ensures);
    }

pub returns-then-after-start-clause-are : goal.returns-then-after-start-clause-are
returns-then-after-start-clause-are c =
    let g = c.args.graph.now.graph in
    let rules = c.learn.ensures.rules in
    let head = head g c.args.from c.args.to rules c.requires.movable in
    let start = start_is g rules c.args.to head.0 head.1 (placed_at c.args.addresses.now) c.requires.addresses in
    let jump = jumping g c.args.from c.args.to rules c.requires.movable in
    let jump_words = words_here g c.args.from c.block_words-2.result jump.0 jump.1 c.block_words-2.ensures in
    let after = end_is g rules c.args.from jump.0 jump.1 (placed_at c.args.addresses.now) c.requires.addresses in
    let block = last_block g c.args.from c.args.to c.learn.ensures.rules c.requires.movable c.args.end c.requires.end in
    let words = words_here g c.args.end c.block_words.result block.0 block.1 c.block_words.ensures in
    let behind = end_is g rules c.args.end block.0 block.1 (placed_at c.args.addresses.now) c.requires.addresses in
    let same = ap (λ n. 4 * size (through (named g.blocks) n)) c.requires.end in
    are_seams_back g c.args.from c.args.to rules c.requires.movable _
    (omega (arith, after, jump_words, c.address-2.ensures, c.from-2.ensures)) (omega (arith, start, c.address-start.ensures)) (omega (arith, behind, words, same, c.address.ensures, c.from.ensures)) (omega (arith, c.if-after-start.true))

pub returns-clause-are : goal.returns-clause-are
returns-clause-are c =
    let g = c.args.graph.now.graph in
    let rules = c.learn.ensures.rules in
    let head = head g c.args.from c.args.to rules c.requires.movable in
    let start = start_is g rules c.args.to head.0 head.1 (placed_at c.args.addresses.now) c.requires.addresses in
    let jump = jumping g c.args.from c.args.to rules c.requires.movable in
    let jump_words = words_here g c.args.from c.block_words-2.result jump.0 jump.1 c.block_words-2.ensures in
    let after = end_is g rules c.args.from jump.0 jump.1 (placed_at c.args.addresses.now) c.requires.addresses in
    let block = last_block g c.args.from c.args.to c.learn.ensures.rules c.requires.movable c.args.end c.requires.end in
    let words = words_here g c.args.end c.block_words.result block.0 block.1 c.block_words.ensures in
    let behind = end_is g rules c.args.end block.0 block.1 (placed_at c.args.addresses.now) c.requires.addresses in
    let same = ap (λ n. 4 * size (through (named g.blocks) n)) c.requires.end in
    are_seams_ahead g c.args.from c.args.to rules c.requires.movable _
    (omega (arith, start, c.address-start.ensures)) (omega (arith, behind, words, same, c.address.ensures, c.from.ensures)) (omega (arith, after, jump_words, c.address-2.ensures, c.from-2.ensures)) (omega (arith, c.if-after-start.false))
