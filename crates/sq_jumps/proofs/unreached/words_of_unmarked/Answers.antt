use Rattle.std.proofs.Common.{◌+◌, not, take, is_some, ap, sym, ◌∙◌, arith}
use Rattle.sq_graph.specs.Graph.{Block}
use Rattle.sq_layout.proofs.Walks.{words_here}
use Rattle.sq_live.proofs.Layouts.{block_at}
use Rattle.sq_lookup.specs.Names.{is_listed}
use Rattle.sq_jumps.proofs.UnreachedCounted.{words_more, words_skip, words_fit}
use Rattle.sq_jumps.proofs.unreached.words_of_unmarked.Goals as goal

pub block_words-requires : goal.block_words-requires
block_words-requires c =
    let b = block_at c.args.graph.now.graph c.args.names.now c.loop-name.name-index c.requires.rules c.requires.names c.loop-name-test.true in
    ap is_some b.found

pub overflow_add-words : goal.overflow_add-words
overflow_add-words c =
    let g = c.args.graph.now.graph in
    let b = block_at g c.args.names.now c.loop-name.name-index c.requires.rules c.requires.names c.loop-name-test.true in
    let words = c.from-words.ensures ∙ words_here g _ c.block_words.result b.block b.found c.block_words.ensures in
    let fit = words_fit g (λ (x : Block). not (is_listed c.args.marks.now x.name)) c.loop-name.name-index b.block c.requires.few b.more in
    let so_far = c.loop-name.invariant in
    omega (arith, fit, words, so_far)

pub loop-name-preserved-then-has : goal.loop-name-preserved-then-has
loop-name-preserved-then-has c =
    let g = c.args.graph.now.graph in
    let k = c.loop-name.name-index in
    let b = block_at g c.args.names.now k c.requires.rules c.requires.names c.loop-name-test.true in
    let marked = sym c.has.ensures ∙ c.if-has.true in
    let test = ap (λ n. not (is_listed c.args.marks.now n)) b.has_name ∙ ap not marked in
    c.loop-name.invariant ∙ sym (words_skip (λ (x : Block). not (is_listed c.args.marks.now x.name)) (take k g.blocks) (take (k + 1) g.blocks) b.block b.more test)

pub loop-name-preserved : goal.loop-name-preserved
loop-name-preserved c =
    let g = c.args.graph.now.graph in
    let k = c.loop-name.name-index in
    let b = block_at g c.args.names.now k c.requires.rules c.requires.names c.loop-name-test.true in
    let words = c.from-words.ensures ∙ words_here g _ c.block_words.result b.block b.found c.block_words.ensures in
    let marked = sym c.has.ensures ∙ c.if-has.false in
    let test = ap (λ n. not (is_listed c.args.marks.now n)) b.has_name ∙ ap not marked in
    let more = words_more (λ (x : Block). not (is_listed c.args.marks.now x.name)) (take k g.blocks) (take (k + 1) g.blocks) b.block b.more test in
    let so_far = c.loop-name.invariant in
    omega (arith, more, words, so_far)
