-- the parts are those of the plain file
use Rattle.std.proofs.Common.{◌++◌, ◌∙◌, ap, sym, subst, length, arith}
use Rattle.sq_write.specs.Output.{words}
use Rattle.sq_write.specs.Laid.{IsFew, IsFile}
use Rattle.sq_write.specs.Plain.{plain_file, plain_output}
use Rattle.sq_write.proofs.Files.{is_output}
use Rattle.sq_write.proofs.Plainly.{same_parts, few_parts}
use Rattle.sq_write.proofs.Splitting.{length_words}
use Rattle.sq_write.proofs.plain.write_plain.Goals as goal

pub text-requires : goal.text-requires
text-requires c =
    let size = ap length c.in_ok-push_words.ensures ∙ ap (λ xs. length (xs ++ words c.args.words.now)) c.in_ok-text.ensures.items ∙ length_words c.args.words.now in
    omega (arith, size, c.requires.few)

pub output_file-requires : goal.output_file-requires
output_file-requires c =
    let same = same_parts c.args.words.now c.new.result.items c.new-2.result.items c.text.result c.push_words.new.file.items c.new-3.result.items c.in_ok-from_slice.field-0.items
    c.new.ensures.items c.new-2.ensures.items c.new-3.ensures.items (c.in_ok-push_words.ensures ∙ ap (λ xs. xs ++ words c.args.words.now) c.in_ok-text.ensures.items) c.text.ensures c.in_ok-from_slice.ensures.items in
    subst IsFew (sym same) (few_parts c.args.words.now c.requires.few)

pub returns : goal.returns
unfolding plain_file
returns c =
    let same = same_parts c.args.words.now c.new.result.items c.new-2.result.items c.text.result c.push_words.new.file.items c.new-3.result.items c.in_ok-from_slice.field-0.items
    c.new.ensures.items c.new-2.ensures.items c.new-3.ensures.items (c.in_ok-push_words.ensures ∙ ap (λ xs. xs ++ words c.args.words.now) c.in_ok-text.ensures.items) c.text.ensures c.in_ok-from_slice.ensures.items in
    is_output (plain_output c.args.words.now) c.in_ok-file.file.items (subst (λ p. IsFile p c.in_ok-file.file.items) same c.in_ok-file.ensures)
