use Rattle.std.proofs.Common.{◌≤◌, ◌∙◌, ap, sym, subst, length, nat_eq, arith}
use Rattle.std.specs.HashMap.{get}
use Rattle.sq_reloc.proofs.CodeWordFacts.{is_code_word}
use Rattle.sq_graph.specs.Words.{words_of}
use Rattle.sq_write.specs.Points.{new_address}
use Rattle.sq_write.specs.Laid.{IsFew, IsFile}
use Rattle.sq_write.specs.Written.{written, written_output}
use Rattle.sq_write.proofs.Assembling.{same_parts, few_parts}
use Rattle.sq_write.proofs.CodeWordCount.{few_code_words}
use Rattle.sq_write.proofs.Files.{is_output}
use Rattle.sq_write.proofs.Fitting.{text_stands}
use Rattle.sq_write.proofs.Lengths.{text_bytes}
use Rattle.sq_write.proofs.SegmentFacts.{few_ordered, few_ordered_bytes}
use Rattle.sq_write.proofs.writing.write_elf.Goals as goal

pub text_and_entries-requires-clause-stands : goal.text_and_entries-requires-clause-stands
text_and_entries-requires-clause-stands c =
    let few : words_of c.args.g.now.graph ≤ 262144 = omega (arith, c.facts.ensures.text, c.requires.words) in
    text_stands c.args.g.now.graph _ c.entry.ensures.rules few c.requires.reach

pub text-requires : goal.text-requires
text-requires c =
    let size = ap length c.in_ok-text.ensures.text ∙ text_bytes c.args.g.now.graph _ in
    omega (arith, size, c.facts.ensures.text, c.requires.words)

pub output_file-requires : goal.output_file-requires
output_file-requires c =
    let same = same_parts c.args.elf.now c.args.g.now.graph c.text-lo.result.lo c.address-entry.result (get nat_eq c.in_ok-set.set) c.in_ok-pieces_before.field-0.items c.in_ok-pieces_behind.field-0.items c.text.result c.in_ok-text.text.text.items c.in_ok-text.text.entries.items c.in_ok-note_of.field-0.items
    (ap (λ t. t.lo) c.text-lo.ensures.value) (c.address-entry.ensures ∙ ap (new_address c.args.g.now.graph c.text-lo.result.lo) c.entry.ensures.value) c.in_ok-set.ensures c.in_ok-pieces_before.ensures c.in_ok-pieces_behind.ensures c.in_ok-text.ensures.text c.text.ensures c.in_ok-text.ensures.entries c.in_ok-note_of.ensures in
    subst IsFew (sym same)
    (few_parts c.args.elf.now c.args.g.now.graph (omega (arith, c.requires.words)) (few_ordered_bytes c.args.elf.now c.facts.ensures.accepted) (few_ordered c.args.elf.now c.facts.ensures.accepted) (omega (arith, c.facts.ensures.text, c.requires.words))
    (few_code_words c.args.elf.now c.facts.ensures.accepted (is_code_word c.args.elf.now c.requires.accepted) c.args.g.now.graph.code_words c.requires.code_words c.entry.ensures.rules.code_words))

pub returns : goal.returns
unfolding written
returns c =
    let same = same_parts c.args.elf.now c.args.g.now.graph c.text-lo.result.lo c.address-entry.result (get nat_eq c.in_ok-set.set) c.in_ok-pieces_before.field-0.items c.in_ok-pieces_behind.field-0.items c.text.result c.in_ok-text.text.text.items c.in_ok-text.text.entries.items c.in_ok-note_of.field-0.items
    (ap (λ t. t.lo) c.text-lo.ensures.value) (c.address-entry.ensures ∙ ap (new_address c.args.g.now.graph c.text-lo.result.lo) c.entry.ensures.value) c.in_ok-set.ensures c.in_ok-pieces_before.ensures c.in_ok-pieces_behind.ensures c.in_ok-text.ensures.text c.text.ensures c.in_ok-text.ensures.entries c.in_ok-note_of.ensures in
    is_output (written_output c.args.elf.now c.args.g.now.graph) c.in_ok-file.file.items (subst (λ p. IsFile p c.in_ok-file.file.items) same c.in_ok-file.ensures)
