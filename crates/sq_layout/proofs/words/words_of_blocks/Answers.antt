use Rattle.std.proofs.Common.{◌∙◌, ap, length, sum_by, arith}
use Rattle.sq_graph.specs.Words.{block_words}
use Rattle.sq_layout.proofs.Walks.{blocks_from, here, words_here}
use Rattle.sq_layout.proofs.words.words_of_blocks.Goals as goal

pub overflow_add-words : goal.overflow_add-words
overflow_add-words c =
    let h = here c.args.g.now.graph c.loop-place.place c.in-Some.name c.requires.rules c.in-Some.is c.loop-place.invariant.place in
    let words = words_here c.args.g.now.graph c.in-Some.name c.block_words-words.result h.step.block h.step.found c.block_words-words.ensures in
    omega (arith, words, h.words, c.loop-place.invariant.words, c.requires.few)

pub loop-place-smaller : goal.loop-place-smaller
loop-place-smaller c =
    let h = here c.args.g.now.graph c.loop-place.place c.in-Some.name c.requires.rules c.in-Some.is c.loop-place.invariant.place in
    omega (arith, ap length h.rest, ap length (ap (blocks_from c.args.g.now.graph.blocks) c.next-place.ensures ∙ h.step.next))

pub loop-place-preserved : goal.loop-place-preserved
loop-place-preserved c =
    let h = here c.args.g.now.graph c.loop-place.place c.in-Some.name c.requires.rules c.in-Some.is c.loop-place.invariant.place in
    let words = words_here c.args.g.now.graph c.in-Some.name c.block_words-words.result h.step.block h.step.found c.block_words-words.ensures in
    let next = ap (blocks_from c.args.g.now.graph.blocks) c.next-place.ensures ∙ h.step.next in
    record {
      place = rw c.next-place.ensures h.step.there;
      words = omega (arith, words, h.words, ap (sum_by block_words) next, c.loop-place.invariant.words);
    }
