-- each refusal is that of its reader
use Rattle.std.proofs.Common.{◌≡◌, inl, inr, Err, sym, ap, ◌∙◌, subst}
use Rattle.std.proofs.lemmas.Result.{err_from_is_err_and}
use Rattle.sq_num.specs.declared.refusal.Denied.TheVariants.{Refused}
use Rattle.sq_elf.specs.Refusing.{file_refusal_of}
use Rattle.law_program.specs.FilePrograms.{IsRefusalOf}
use Rattle.law_program.specs.FilePrograms.IsRefusalOf.{by_file, by_relocs}
use Rattle.sq_lifted.specs.LiftedFiles.{IsLiftedFile}
use Rattle.sq_lifted.proofs.Accepting.{not_refused}
use Rattle.sq_top.proofs.LighterFile.{lifted_is_accepted}
use Rattle.sq_top.proofs.Refusals.{file_exact, relocs_exact, lift_exact, lift_refused}
use Rattle.sq_top.proofs.reading.read_graph.Goals as goal

pub returns-in_err-elf-clause-refused : goal.returns-in_err-elf-clause-refused
returns-in_err-elf-clause-refused c = λ refusal is.
    let p = err_from_is_err_and c.from_residual.result c.from_residual.ensures.1 in
    let same : c.in_err-elf.field-0.0 ≡ Refused refusal = cc (p.1, p.2, is) in
    by_file (c.in_err-elf.ensures.refused refusal (ap Err same))

pub returns-in_err-elf-clause-exact : goal.returns-in_err-elf-clause-exact
returns-in_err-elf-clause-exact c = λ refusal refused.
    let p = err_from_is_err_and c.from_residual.result c.from_residual.ensures.1 in
    let result : c.from_residual.result ≡ Err c.in_err-elf.field-0.0 = cc (p.1, p.2) in
    let either = file_exact c.args.bytes.now c.in_err-elf.field-0.0 (λ r same. c.in_err-elf.ensures.refused r (ap Err same)) refusal refused in
    elim either [ inl same ↦ inl (result ∙ ap Err same) | inr same ↦ inr (result ∙ ap Err same) ]

pub returns-in_err-relocs-clause-refused : goal.returns-in_err-relocs-clause-refused
returns-in_err-relocs-clause-refused c = λ refusal is.
    let p = err_from_is_err_and c.from_residual-in_err-relocs.result c.from_residual-in_err-relocs.ensures.1 in
    let same : c.in_err-relocs.field-0.0 ≡ Refused refusal = cc (p.1, p.2, is) in
    subst (λ bytes. IsRefusalOf bytes refusal) c.in_ok-elf.ensures.read
    (by_relocs (ap file_refusal_of c.in_ok-elf.ensures.read ∙ c.in_ok-elf.ensures.accepted) (c.in_err-relocs.ensures.refused refusal (ap Err same)))

pub returns-in_err-relocs-clause-exact : goal.returns-in_err-relocs-clause-exact
returns-in_err-relocs-clause-exact c = λ refusal refused.
    let p = err_from_is_err_and c.from_residual-in_err-relocs.result c.from_residual-in_err-relocs.ensures.1 in
    let result : c.from_residual-in_err-relocs.result ≡ Err c.in_err-relocs.field-0.0 = cc (p.1, p.2) in
    let given = subst (λ bytes. IsRefusalOf bytes refusal) (sym c.in_ok-elf.ensures.read) refused in
    let either = relocs_exact c.in_ok-elf.elf c.in_err-relocs.field-0.0 (ap file_refusal_of c.in_ok-elf.ensures.read ∙ c.in_ok-elf.ensures.accepted) (λ r same. c.in_err-relocs.ensures.refused r (ap Err same)) refusal given in
    elim either [ inl same ↦ inl (result ∙ ap Err same) | inr same ↦ inr (result ∙ ap Err same) ]

pub returns-in_err-graph-clause-refused : goal.returns-in_err-graph-clause-refused
returns-in_err-graph-clause-refused c = λ refusal is.
    let p = err_from_is_err_and c.from_residual-in_err-graph.result c.from_residual-in_err-graph.ensures.1 in
    let same : c.in_err-graph.field-0.0 ≡ Refused refusal = cc (p.1, p.2, is) in
    subst (λ bytes. IsRefusalOf bytes refusal) c.in_ok-elf.ensures.read
    (lift_refused c.in_ok-elf.elf refusal (c.in_err-graph.ensures.refused refusal (ap Err same)))

pub returns-in_err-graph-clause-exact : goal.returns-in_err-graph-clause-exact
returns-in_err-graph-clause-exact c = λ refusal refused.
    let p = err_from_is_err_and c.from_residual-in_err-graph.result c.from_residual-in_err-graph.ensures.1 in
    let result : c.from_residual-in_err-graph.result ≡ Err c.in_err-graph.field-0.0 = cc (p.1, p.2) in
    let given = subst (λ bytes. IsRefusalOf bytes refusal) (sym c.in_ok-elf.ensures.read) refused in
    let either = lift_exact c.in_ok-elf.elf c.in_err-graph.field-0.0 (ap file_refusal_of c.in_ok-elf.ensures.read ∙ c.in_ok-elf.ensures.accepted) c.in_ok-relocs.ensures.accepted
    (λ r e. elim (c.in_err-graph.ensures.exact r e) [ inl same ↦ inl (cc) | inr same ↦ inr (cc) ]) refusal given in
    elim either [ inl same ↦ inl (result ∙ ap Err same) | inr same ↦ inr (result ∙ ap Err same) ]

pub returns-clause-exact : goal.returns-clause-exact
returns-clause-exact c = λ refusal refused.
    let lifted = subst (λ bytes. IsLiftedFile bytes c.in_ok-graph.graph.graph) c.in_ok-elf.ensures.read c.in_ok-graph.ensures.lifted in
    absurd (not_refused c.args.bytes.now (lifted_is_accepted c.args.bytes.now c.in_ok-graph.graph.graph lifted) refusal refused)
