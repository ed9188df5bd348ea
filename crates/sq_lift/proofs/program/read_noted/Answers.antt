use Rattle.std.proofs.Common.{None, ◌≡◌, Err, inl, inr, ap, sym, ◌∙◌, subst}
use Rattle.std.proofs.lemmas.Result.{err_from_is_err_and}
use Rattle.sq_num.specs.declared.refusal.Refusal.TheVariants.{BadNote}
use Rattle.sq_num.specs.declared.refusal.Denied.TheVariants.{Refused}
use Rattle.law_program.specs.Programs.{Program}
use Rattle.sq_lift.specs.Flags.{is_flagged}
use Rattle.sq_lift.specs.Refused.{IsEarlyRefusal}
use Rattle.sq_lift.proofs.NoteRefusals.{early_from_text, one_early, text_answer, found_text, unread_note, bad_entry, noted, none_early, links_small}
use Rattle.sq_lift.proofs.program.read_noted.Goals as goal

pub returns-in_err-program-clause-refused : goal.returns-in_err-program-clause-refused
returns-in_err-program-clause-refused c = λ refusal is.
    let p = err_from_is_err_and c.from_residual.result c.from_residual.ensures.1 in
    let same : c.in_err-program.field-0.0 ≡ Refused refusal = cc (p.1, p.2, is) in
    early_from_text c.args.elf.now refusal (c.in_err-program.ensures.refused refusal (ap Err same))

pub returns-in_err-program-clause-exact : goal.returns-in_err-program-clause-exact
returns-in_err-program-clause-exact c = λ refusal early.
    let p = err_from_is_err_and c.from_residual.result c.from_residual.ensures.1 in
    let result : c.from_residual.result ≡ Err c.in_err-program.field-0.0 = cc (p.1, p.2) in
    let either = text_answer c.args.elf.now c.in_err-program.field-0.0 (λ r same. c.in_err-program.ensures.refused r (ap Err same)) refusal early in
    elim either [ inl same ↦ inl (result ∙ ap Err same) | inr same ↦ inr (result ∙ ap Err same) ]

pub returns-in_default-clause-refused : goal.returns-in_default-clause-refused
returns-in_default-clause-refused c = λ refusal is.
    let found = found_text c.args.elf.now c.args.relocs.now c.in_ok-program.program.text c.code_words-code_words.result.now c.in_ok-program.program.reached c.requires c.in_ok-program.ensures.read c.learn.ensures.accepted c.code_words-code_words.ensures.accepted c.code_words-code_words.ensures.value in
    let none = sym (rw c.in_default.is at c.in_ok-notes.ensures.notes) in
    let same : BadNote 0 ≡ refusal = (cc) in
    subst (IsEarlyRefusal c.args.elf.now) same (unread_note c.args.elf.now c.in_ok-program.program.text c.code_words-code_words.result.now c.in_ok-program.program.reached found none)

pub returns-in_default-clause-exact : goal.returns-in_default-clause-exact
returns-in_default-clause-exact c = λ refusal early.
    let found = found_text c.args.elf.now c.args.relocs.now c.in_ok-program.program.text c.code_words-code_words.result.now c.in_ok-program.program.reached c.requires c.in_ok-program.ensures.read c.learn.ensures.accepted c.code_words-code_words.ensures.accepted c.code_words-code_words.ensures.value in
    let none = sym (rw c.in_default.is at c.in_ok-notes.ensures.notes) in
    let unread = unread_note c.args.elf.now c.in_ok-program.program.text c.code_words-code_words.result.now c.in_ok-program.program.reached found none in
    inl (ap (λ r. Err (Refused r)) (one_early c.args.elf.now (BadNote 0) refusal unread early))

pub returns-in-Some-2-clause-refused : goal.returns-in-Some-2-clause-refused
returns-in-Some-2-clause-refused c = λ refusal is.
    let found = found_text c.args.elf.now c.args.relocs.now c.in_ok-program.program.text c.code_words-code_words.result.now c.in_ok-program.program.reached c.requires c.in_ok-program.ensures.read c.learn.ensures.accepted c.code_words-code_words.ensures.accepted c.code_words-code_words.ensures.value in
    let some = sym (rw c.in-Some.is at c.in_ok-notes.ensures.notes) in
    let bad = sym (rw c.deref.ensures.value at c.in_ok-entry.ensures) ∙ c.in-Some-2.is in
    let same : BadNote c.in-Some-2.entry ≡ refusal = (cc) in
    subst (IsEarlyRefusal c.args.elf.now) same (bad_entry c.args.elf.now c.in_ok-program.program.text c.code_words-code_words.result.now c.in_ok-program.program.reached found c.in-Some.notes.items c.entry.result c.in-Some-2.entry some c.entry.ensures bad)

pub returns-in-Some-2-clause-exact : goal.returns-in-Some-2-clause-exact
returns-in-Some-2-clause-exact c = λ refusal early.
    let found = found_text c.args.elf.now c.args.relocs.now c.in_ok-program.program.text c.code_words-code_words.result.now c.in_ok-program.program.reached c.requires c.in_ok-program.ensures.read c.learn.ensures.accepted c.code_words-code_words.ensures.accepted c.code_words-code_words.ensures.value in
    let some = sym (rw c.in-Some.is at c.in_ok-notes.ensures.notes) in
    let bad = sym (rw c.deref.ensures.value at c.in_ok-entry.ensures) ∙ c.in-Some-2.is in
    let entry = bad_entry c.args.elf.now c.in_ok-program.program.text c.code_words-code_words.result.now c.in_ok-program.program.reached found c.in-Some.notes.items c.entry.result c.in-Some-2.entry some c.entry.ensures bad in
    inl (ap (λ r. Err (Refused r)) (one_early c.args.elf.now (BadNote c.in-Some-2.entry) refusal entry early))

pub returns-in-None-clause-read : goal.returns-in-None-clause-read
returns-in-None-clause-read c =
    let found = found_text c.args.elf.now c.args.relocs.now c.in_ok-program.program.text c.code_words-code_words.result.now c.in_ok-program.program.reached c.requires c.in_ok-program.ensures.read c.learn.ensures.accepted c.code_words-code_words.ensures.accepted c.code_words-code_words.ensures.value in
    let some = sym (rw c.in-Some.is at c.in_ok-notes.ensures.notes) in
    let good = sym (rw c.deref.ensures.value at c.in_ok-entry.ensures) ∙ c.in-None.is in
    noted c.args.elf.now c.in_ok-program.program.text c.code_words-code_words.result.now c.in_ok-program.program.reached found c.in-Some.notes.items c.entry.result some c.entry.ensures good

pub returns-in-None-clause-exact : goal.returns-in-None-clause-exact
returns-in-None-clause-exact c = λ refusal early.
    let found = found_text c.args.elf.now c.args.relocs.now c.in_ok-program.program.text c.code_words-code_words.result.now c.in_ok-program.program.reached c.requires c.in_ok-program.ensures.read c.learn.ensures.accepted c.code_words-code_words.ensures.accepted c.code_words-code_words.ensures.value in
    let some = sym (rw c.in-Some.is at c.in_ok-notes.ensures.notes) in
    let good = sym (rw c.deref.ensures.value at c.in_ok-entry.ensures) ∙ c.in-None.is in
    let read = noted c.args.elf.now c.in_ok-program.program.text c.code_words-code_words.result.now c.in_ok-program.program.reached found c.in-Some.notes.items c.entry.result some c.entry.ensures good in
    let none = none_early c.args.elf.now c.in_ok-program.program.text c.code_words-code_words.result.now c.in_ok-program.program.reached found c.in-Some.notes.items read refusal early in
    absurd (cc)

pub returns-in-None-clause-links : goal.returns-in-None-clause-links
returns-in-None-clause-links c =
    let good = sym (rw c.deref.ensures.value at c.in_ok-entry.ensures) ∙ c.in-None.is in
    let p : Program = record { text = c.in_ok-program.program.text; entry = c.entry.result; code_words = c.code_words-code_words.result.now; notes = c.in-Some.notes.items } in
    links_small (is_flagged c.in_ok-program.program.reached) p None 1 c.in-Some.notes.items good
