use Rattle.std.proofs.Common.{◌≡◌, [], ◌∷◌, ◌++◌, length, ap, sym, ◌∙◌, arith}
use Rattle.law_program.specs.FilePrograms.{words_from}
use Rattle.sq_lift.proofs.FileTexts.{words_more, words_count}
use Rattle.sq_lift.proofs.text.read_text.Goals as goal

pub loop-place-preserved : goal.loop-place-preserved
loop-place-preserved c =
    c.in_ok-push.ensures.items
    ∙ ap (λ words. words ++ c.file_word.result ∷ []) c.loop-place.invariant
    ∙ ap (λ word. words_from c.args.elf.now c.text-range.result.lo c.loop-place.place ++ word ∷ []) c.file_word.ensures
    ∙ sym (words_more c.args.elf.now c.text-range.result.lo c.loop-place.place)

pub invariant_of-result : goal.invariant_of-result
invariant_of-result c =
    let count : length c.loop-place.words.items ≡ c.loop-place.place = ap length c.loop-place.invariant ∙ words_count c.args.elf.now c.text-range.result.lo c.loop-place.place in
    omega (arith, count)
