use Rattle.std.proofs.Common.{◌≡◌, Err, Some, inl, ap, sym, ◌∙◌}
use Rattle.sq_num.specs.declared.refusal.Denied.TheVariants.{Refused}
use Rattle.sq_lift.proofs.FilePrograms.{found_from, refuses, exactly, accepted}
use Rattle.sq_lift.proofs.program.read_program.Goals as goal

pub returns-in-Some-clause-refused : goal.returns-in-Some-clause-refused
returns-in-Some-clause-refused c = λ refusal is.
    let found = found_from c.args.elf.now c.args.relocs.now c.in_ok-text.text c.code_words.result.now c.in_ok-reached.reached c.entry.result c.requires c.learn.ensures.accepted c.code_words.ensures.accepted c.in_ok-text.ensures c.code_words.ensures.value c.entry.ensures c.in_ok-reached.ensures in
    let same : c.in-Some.refusal ≡ refusal = (cc) in
    refuses c.args.elf.now c.in_ok-text.text c.code_words.result.now c.in_ok-reached.reached found refusal (sym c.in-Some.ensures ∙ ap Some same)

pub returns-in-Some-clause-exact : goal.returns-in-Some-clause-exact
returns-in-Some-clause-exact c = λ refusal refused.
    let found = found_from c.args.elf.now c.args.relocs.now c.in_ok-text.text c.code_words.result.now c.in_ok-reached.reached c.entry.result c.requires c.learn.ensures.accepted c.code_words.ensures.accepted c.in_ok-text.ensures c.code_words.ensures.value c.entry.ensures c.in_ok-reached.ensures in
    let both : Some c.in-Some.refusal ≡ Some refusal = c.in-Some.ensures ∙ exactly c.args.elf.now c.in_ok-text.text c.code_words.result.now c.in_ok-reached.reached found refusal refused in
    let same : c.in-Some.refusal ≡ refusal = (cc) in
    inl (ap (λ x. Err (Refused x)) same)

pub returns-in-None-clause-read : goal.returns-in-None-clause-read
returns-in-None-clause-read c =
    let found = found_from c.args.elf.now c.args.relocs.now c.in_ok-text.text c.code_words.result.now c.in_ok-reached.reached c.entry.result c.requires c.learn.ensures.accepted c.code_words.ensures.accepted c.in_ok-text.ensures c.code_words.ensures.value c.entry.ensures c.in_ok-reached.ensures in
    accepted c.args.elf.now c.in_ok-text.text c.code_words.result.now c.in_ok-reached.reached found (sym c.in-None.ensures)

pub returns-in-None-clause-exact : goal.returns-in-None-clause-exact
returns-in-None-clause-exact c = λ refusal refused.
    let found = found_from c.args.elf.now c.args.relocs.now c.in_ok-text.text c.code_words.result.now c.in_ok-reached.reached c.entry.result c.requires c.learn.ensures.accepted c.code_words.ensures.accepted c.in_ok-text.ensures c.code_words.ensures.value c.entry.ensures c.in_ok-reached.ensures in
    let both = c.in-None.ensures ∙ exactly c.args.elf.now c.in_ok-text.text c.code_words.result.now c.in_ok-reached.reached found refusal refused in
    absurd (cc)
