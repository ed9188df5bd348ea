-- the words so far and the next block; and where no block is left
use Rattle.std.proofs.Common.{◌≡◌, ℕ, ◌+◌, ◌*◌, ◌-◌, ◌++◌, sym, subst, ap, ◌∙◌, arith, append_assoc}
use Rattle.sq_gen.specs.Generated.{number_after, kind_of, block, last_words, words_from}
use Rattle.sq_gen.proofs.WordCounts.{next_block, no_block}
use Rattle.sq_gen.proofs.generator.words_from.Goals as goal

pub loop-left-preserved : goal.loop-left-preserved
loop-left-preserved c =
    let number : ℕ = c.loop-left.number in
    let left : ℕ = c.loop-left.left in
    let after : ℕ = c.number_after-number.result in
    let Stepped : ℕ → Type 0 = λ y. words_from number left ≡ block (kind_of y) (28 * (left - 1) + 20) ++ words_from y (left - 1) in
    let stepped : Stepped after = subst Stepped (sym c.number_after-number.ensures) (next_block number left (omega (arith, c.loop-left-test.true))) in
    ap (λ words. words ++ words_from after (left - 1)) c.in_ok-push_block.ensures
    ∙ append_assoc c.loop-left.words.items (block (kind_of after) (28 * (left - 1) + 20)) (words_from after (left - 1))
    ∙ ap (λ rest. c.loop-left.words.items ++ rest) (sym stepped)
    ∙ c.loop-left.invariant

pub returns : goal.returns
returns c =
    let none : c.loop-left.left ≡ 0 = omega (arith, c.loop-left-test.false) in
    let last : words_from c.loop-left.number c.loop-left.left ≡ last_words = ap (words_from c.loop-left.number) none ∙ no_block c.loop-left.number in
    c.in_ok-push_last.ensures ∙ ap (λ rest. c.loop-left.words.items ++ rest) (sym last) ∙ c.loop-left.invariant
