-- the words that are written are those of the text
use Rattle.std.proofs.Common.{◌≡◌, ℕ, List, IfOk, subst, ◌∙◌}
use Rattle.sq_write.specs.Plain.{plain_file}
use Rattle.sq_gen.specs.Generated.{words_from, generated}
use Rattle.sq_gen.proofs.generator.generate.Goals as goal

pub returns : goal.returns
unfolding generated
returns c =
    let same : c.as_slice.result.now ≡ words_from c.args.first c.args.blocks = c.as_slice.ensures.value ∙ c.in_ok-words.ensures in
    let P : List ℕ → Type 0 = λ words. IfOk c.write_plain.result (λ file. file.items ≡ plain_file words) in
    subst P same c.write_plain.ensures
