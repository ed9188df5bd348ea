use Rattle.std.proofs.Common.{◌≡◌, inl, inr, ◌+◌, ◌<◌, length, Err, refl, ap, ◌∙◌, subst, arith}
use Rattle.std.specs.List.{AllByRecursion}
use Rattle.std.proofs.lemmas.Result.{err_from_is_err_and}
use Rattle.sq_num.specs.declared.refusal.Refusal.TheVariants.{BadNote}
use Rattle.sq_num.specs.declared.refusal.Denied.TheVariants.{Refused}
use Rattle.sq_elf.specs.Headers.{entry_of}
use Rattle.sq_lifted.specs.LiftedFiles.{IsRefusedFile}
use Rattle.sq_lifted.proofs.EarlyGraphs.{found_noted, early_alike}
use Rattle.sq_lift.specs.Flags.{is_flagged}
use Rattle.sq_lifted.proofs.LiftedFiles.{refused_early, early_answer, procedures_are, is_lifted, in_notes, is_refused, one_refusal, no_refusal}
use Rattle.sq_lifted.proofs.GoodGraphs.{lifted_fits}
use Rattle.sq_lifted.proofs.SameFiles.{lifted_runs, lifted_shows}
use Rattle.sq_lifted.proofs.lifts.lift.Goals as goal

pub returns-in_err-noted-clause-refused : goal.returns-in_err-noted-clause-refused
returns-in_err-noted-clause-refused c = λ refusal is.
    let p = err_from_is_err_and c.from_residual.result c.from_residual.ensures.1 in
    let same : c.in_err-noted.field-0.0 ≡ Refused refusal = cc (p.1, p.2, is) in
    refused_early c.args.elf.now refusal (c.in_err-noted.ensures.refused refusal (ap Err same))

pub returns-in_err-noted-clause-exact : goal.returns-in_err-noted-clause-exact
returns-in_err-noted-clause-exact c = λ refusal refused.
    let p = err_from_is_err_and c.from_residual.result c.from_residual.ensures.1 in
    let result : c.from_residual.result ≡ Err c.in_err-noted.field-0.0 = cc (p.1, p.2) in
    let either = early_answer c.args.elf.now c.in_err-noted.field-0.0 (λ r same. c.in_err-noted.ensures.refused r (ap Err same)) refusal refused in
    elim either [ inl same ↦ inl (result ∙ ap Err same) | inr same ↦ inr (result ∙ ap Err same) ]

pub first_live-requires-clause-procedures : goal.first_live-requires-clause-procedures
first_live-requires-clause-procedures c =
    let found = found_noted c.args.elf.now c.bytes.result.now c.args.relocs.now c.in_ok-noted.noted.program.text c.in_ok-noted.noted.program.reached c.deref.result.now c.in_ok-noted.noted.notes.items c.code_words-code_words.result.now (entry_of c.args.elf.now) c.bytes.ensures.value c.bytes_fit.ensures c.requires c.code_words-code_words.ensures.accepted c.code_words-code_words.ensures.value c.deref.ensures.value c.in_ok-noted.ensures.read c.bytes.ensures.accepted refl in
    procedures_are c.args.elf.now c.in_ok-noted.noted.program.text c.in_ok-noted.noted.program.reached c.deref.result.now c.code_words-code_words.result.now found c.in_ok-graph.graph.graph (early_alike c.args.elf.now (is_flagged c.in_ok-noted.noted.program.reached) c.in_ok-graph.graph.graph c.in_ok-graph.ensures.graph)

pub overflow_add-result : goal.overflow_add-result
overflow_add-result c =
    let found = found_noted c.args.elf.now c.bytes.result.now c.args.relocs.now c.in_ok-noted.noted.program.text c.in_ok-noted.noted.program.reached c.deref.result.now c.in_ok-noted.noted.notes.items c.code_words-code_words.result.now (entry_of c.args.elf.now) c.bytes.ensures.value c.bytes_fit.ensures c.requires c.code_words-code_words.ensures.accepted c.code_words-code_words.ensures.value c.deref.ensures.value c.in_ok-noted.ensures.read c.bytes.ensures.accepted refl in
    let below = in_notes c.args.elf.now c.in_ok-noted.noted.program.text c.in_ok-noted.noted.program.reached c.deref.result.now c.code_words-code_words.result.now found c.in_ok-graph.graph.graph (early_alike c.args.elf.now (is_flagged c.in_ok-noted.noted.program.reached) c.in_ok-graph.graph.graph c.in_ok-graph.ensures.graph) c.in_ok-number.field-0 c.in_ok-number.ensures c.in-Some.number c.in-Some.is in
    let count = c.in_ok-noted.ensures.count in
    omega (arith, below, count, ap length c.deref.ensures.value)

pub returns-in-Some-clause-refused : goal.returns-in-Some-clause-refused
returns-in-Some-clause-refused c = λ refusal is.
    let found = found_noted c.args.elf.now c.bytes.result.now c.args.relocs.now c.in_ok-noted.noted.program.text c.in_ok-noted.noted.program.reached c.deref.result.now c.in_ok-noted.noted.notes.items c.code_words-code_words.result.now (entry_of c.args.elf.now) c.bytes.ensures.value c.bytes_fit.ensures c.requires c.code_words-code_words.ensures.accepted c.code_words-code_words.ensures.value c.deref.ensures.value c.in_ok-noted.ensures.read c.bytes.ensures.accepted refl in
    let same : BadNote (c.in-Some.number + 1) ≡ refusal = (cc) in
    subst (IsRefusedFile c.args.elf.now) same (is_refused c.args.elf.now c.in_ok-noted.noted.program.text c.in_ok-noted.noted.program.reached c.deref.result.now c.code_words-code_words.result.now found c.in_ok-graph.graph.graph (early_alike c.args.elf.now (is_flagged c.in_ok-noted.noted.program.reached) c.in_ok-graph.graph.graph c.in_ok-graph.ensures.graph) c.in_ok-number.field-0 c.in_ok-number.ensures c.in-Some.number c.in-Some.is)

pub returns-in-Some-clause-exact : goal.returns-in-Some-clause-exact
returns-in-Some-clause-exact c = λ refusal refused.
    let found = found_noted c.args.elf.now c.bytes.result.now c.args.relocs.now c.in_ok-noted.noted.program.text c.in_ok-noted.noted.program.reached c.deref.result.now c.in_ok-noted.noted.notes.items c.code_words-code_words.result.now (entry_of c.args.elf.now) c.bytes.ensures.value c.bytes_fit.ensures c.requires c.code_words-code_words.ensures.accepted c.code_words-code_words.ensures.value c.deref.ensures.value c.in_ok-noted.ensures.read c.bytes.ensures.accepted refl in
    inl (ap (λ r. Err (Refused r)) (one_refusal c.args.elf.now c.in_ok-noted.noted.program.text c.in_ok-noted.noted.program.reached c.deref.result.now c.code_words-code_words.result.now found c.in_ok-graph.graph.graph (early_alike c.args.elf.now (is_flagged c.in_ok-noted.noted.program.reached) c.in_ok-graph.graph.graph c.in_ok-graph.ensures.graph) c.in_ok-number.field-0 c.in_ok-number.ensures c.in-Some.number c.in-Some.is refusal refused))

pub returns-clause-lifted : goal.returns-clause-lifted
returns-clause-lifted c =
    let found = found_noted c.args.elf.now c.bytes.result.now c.args.relocs.now c.in_ok-noted.noted.program.text c.in_ok-noted.noted.program.reached c.deref.result.now c.in_ok-noted.noted.notes.items c.code_words-code_words.result.now (entry_of c.args.elf.now) c.bytes.ensures.value c.bytes_fit.ensures c.requires c.code_words-code_words.ensures.accepted c.code_words-code_words.ensures.value c.deref.ensures.value c.in_ok-noted.ensures.read c.bytes.ensures.accepted refl in
    is_lifted c.args.elf.now c.in_ok-noted.noted.program.text c.in_ok-noted.noted.program.reached c.deref.result.now c.code_words-code_words.result.now found c.in_ok-graph.graph.graph (early_alike c.args.elf.now (is_flagged c.in_ok-noted.noted.program.reached) c.in_ok-graph.graph.graph c.in_ok-graph.ensures.graph) c.in_ok-number.field-0 c.in_ok-number.ensures c.in-None.is

pub returns-clause-runs : goal.returns-clause-runs
returns-clause-runs c = lifted_runs c.args.elf.now c.in_ok-graph.graph.graph (subst (AllByRecursion (λ b. b < 256)) c.bytes.ensures.value c.bytes_fit.ensures) (returns-clause-lifted c)

pub returns-clause-shows : goal.returns-clause-shows
returns-clause-shows c = lifted_shows c.args.elf.now c.in_ok-graph.graph.graph (subst (AllByRecursion (λ b. b < 256)) c.bytes.ensures.value c.bytes_fit.ensures) (returns-clause-lifted c)

pub returns-clause-fits : goal.returns-clause-fits
returns-clause-fits c = lifted_fits c.args.elf.now c.in_ok-graph.graph.graph (subst (AllByRecursion (λ b. b < 256)) c.bytes.ensures.value c.bytes_fit.ensures) (returns-clause-lifted c)

pub returns-clause-exact : goal.returns-clause-exact
returns-clause-exact c = λ refusal refused.
    let found = found_noted c.args.elf.now c.bytes.result.now c.args.relocs.now c.in_ok-noted.noted.program.text c.in_ok-noted.noted.program.reached c.deref.result.now c.in_ok-noted.noted.notes.items c.code_words-code_words.result.now (entry_of c.args.elf.now) c.bytes.ensures.value c.bytes_fit.ensures c.requires c.code_words-code_words.ensures.accepted c.code_words-code_words.ensures.value c.deref.ensures.value c.in_ok-noted.ensures.read c.bytes.ensures.accepted refl in
    absurd (no_refusal c.args.elf.now c.in_ok-noted.noted.program.text c.in_ok-noted.noted.program.reached c.deref.result.now c.code_words-code_words.result.now found c.in_ok-graph.graph.graph (early_alike c.args.elf.now (is_flagged c.in_ok-noted.noted.program.reached) c.in_ok-graph.graph.graph c.in_ok-graph.ensures.graph) c.in_ok-number.field-0 c.in_ok-number.ensures c.in-None.is refusal refused)
