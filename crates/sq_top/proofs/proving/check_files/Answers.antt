-- each refusal is that of the first file, or else of the second, and the steps replay from the graph of the first
use Rattle.std.proofs.Common.{◌≡◌, ◌≢◌, inl, inr, Ok, Err, sym, ap, ◌∙◌, subst}
use Rattle.std.proofs.lemmas.Result.{err_from_is_err_and}
use Rattle.sq_num.specs.declared.refusal.Denied.TheVariants.{Refused}
use Rattle.sq_write.specs.Written.{written}
use Rattle.sq_top.specs.Packing.{CanBeWritten}
use Rattle.sq_top.specs.Proving.{Proves, FailsToProve}
use Rattle.sq_top.proofs.LighterFile.{small_text, lifted_is_accepted}
use Rattle.sq_top.proofs.ProvedFile.{proves, fails_at, differs, proves_not, proves_no_other, less_fits, is_proved, first_exact, second_exact}
use Rattle.sq_top.proofs.proving.check_files.Goals as goal

pub returns-in_err-elf-clause-exact : goal.returns-in_err-elf-clause-exact
returns-in_err-elf-clause-exact c = λ refusal refused.
    let p = err_from_is_err_and c.from_residual.result c.from_residual.ensures.1 in
    let result : c.from_residual.result ≡ Err c.in_err-elf.field-0.0 = cc (p.1, p.2) in
    let either =
    first_exact c.args.input.now c.args.output.now c.in_err-elf.field-0.0 (λ r same. c.in_err-elf.ensures.refused r (ap Err same))
    (λ r e. elim (c.in_err-elf.ensures.exact r e) [ inl same ↦ inl (cc) | inr same ↦ inr (cc) ]) refusal refused in
    elim either [ inl same ↦ inl (result ∙ ap Err same) | inr same ↦ inr (result ∙ ap Err same) ]

pub returns-in_err-_accepted-clause-exact : goal.returns-in_err-_accepted-clause-exact
returns-in_err-_accepted-clause-exact c = λ refusal refused.
    let p = err_from_is_err_and c.from_residual-in_err-_accepted.result c.from_residual-in_err-_accepted.ensures.1 in
    let result : c.from_residual-in_err-_accepted.result ≡ Err c.in_err-_accepted.field-0.0 = cc (p.1, p.2) in
    let either =
    second_exact c.args.input.now c.args.output.now c.in_err-_accepted.field-0.0 (lifted_is_accepted c.args.input.now c.in_ok-elf.field-0.graph.graph c.in_ok-elf.ensures.lifted)
    (λ r e. elim (c.in_err-_accepted.ensures.exact r e) [ inl same ↦ inl (cc) | inr same ↦ inr (cc) ]) refusal refused in
    elim either [ inl same ↦ inl (result ∙ ap Err same) | inr same ↦ inr (result ∙ ap Err same) ]

pub returns-in_err-_accepted-clause-refused : goal.returns-in_err-_accepted-clause-refused
returns-in_err-_accepted-clause-refused c = λ refusal is.
    let p = err_from_is_err_and c.from_residual-in_err-_accepted.result c.from_residual-in_err-_accepted.ensures.1 in
    let same : c.in_err-_accepted.field-0.0 ≡ Refused refusal = cc (p.1, p.2, is) in
    inr (lifted_is_accepted c.args.input.now c.in_ok-elf.field-0.graph.graph c.in_ok-elf.ensures.lifted, c.in_err-_accepted.ensures.refused refusal (ap Err same))

pub check_graph-requires-clause-words : goal.check_graph-requires-clause-words
check_graph-requires-clause-words c =
    small_text c.args.input.now c.in_ok-elf.field-0.graph.graph
    (lifted_is_accepted c.args.input.now c.in_ok-elf.field-0.graph.graph c.in_ok-elf.ensures.lifted).accepted.read.file c.in_ok-elf.ensures.fits

pub returns-in-No-clause-no : goal.returns-in-No-clause-no
returns-in-No-clause-no c = λ line e.
    let is : c.in-No.line ≡ line = cc e in
    subst (FailsToProve c.args.input.now c.args.output.now c.args.cert.now) is
    (fails_at c.args.input.now c.args.output.now c.args.cert.now c.in_ok-elf.field-0.graph.graph c.bytes_fit.ensures c.in_ok-elf.ensures.lifted c.in_ok-elf.ensures.slotted c.in-No.line (c.in_ok-verdict.ensures.no c.in-No.line (ap Ok c.in-No.is)))

pub returns-in-No-clause-only : goal.returns-in-No-clause-only
returns-in-No-clause-only c = λ line e.
    proves_not c.args.input.now c.args.output.now c.args.cert.now c.in_ok-elf.field-0.graph.graph c.bytes_fit.ensures c.in_ok-elf.ensures.lifted c.in_ok-elf.ensures.slotted (c.in_ok-verdict.ensures.only c.in-No.line (ap Ok c.in-No.is))

pub returns-in-No-clause-accepted : goal.returns-in-No-clause-accepted
returns-in-No-clause-accepted c =
    (lifted_is_accepted c.args.input.now c.in_ok-elf.field-0.graph.graph c.in_ok-elf.ensures.lifted, lifted_is_accepted c.args.output.now c.in_ok-_accepted._accepted.graph.graph c.in_ok-_accepted.ensures.lifted)

pub is_written-requires-clause-fits : goal.is_written-requires-clause-fits
is_written-requires-clause-fits c =
    subst (λ bytes. CanBeWritten bytes c.check_graph.new.graph.graph) (sym c.in_ok-elf.ensures.read)
    (less_fits c.args.input.now c.in_ok-elf.field-0.graph.graph c.check_graph.new.graph.graph c.in_ok-elf.ensures.fits (c.in_ok-verdict.ensures.lighter c.in-Yes.steps (ap Ok c.in-Yes.is)))

pub returns-then-not-branch-clause-no : goal.returns-then-not-branch-clause-no
returns-then-not-branch-clause-no c = λ line e.
    let is : 0 ≡ line = cc e in
    let other = subst (λ bytes. c.args.output.now ≢ written bytes c.check_graph.new.graph.graph) c.in_ok-elf.ensures.read (c.in_ok-is_written.ensures.no (ap Ok c.if-not-branch.true)) in
    subst (FailsToProve c.args.input.now c.args.output.now c.args.cert.now) is
    (differs c.args.input.now c.args.output.now c.args.cert.now c.in_ok-elf.field-0.graph.graph c.bytes_fit.ensures c.in_ok-elf.ensures.lifted c.in_ok-elf.ensures.slotted c.check_graph.new.graph.graph c.in-Yes.steps (c.in_ok-verdict.ensures.yes c.in-Yes.steps (ap Ok c.in-Yes.is)) other)

pub returns-then-not-branch-clause-only : goal.returns-then-not-branch-clause-only
returns-then-not-branch-clause-only c = λ line e.
    let other = subst (λ bytes. c.args.output.now ≢ written bytes c.check_graph.new.graph.graph) c.in_ok-elf.ensures.read (c.in_ok-is_written.ensures.no (ap Ok c.if-not-branch.true)) in
    proves_no_other c.args.input.now c.args.output.now c.args.cert.now c.in_ok-elf.field-0.graph.graph c.bytes_fit.ensures c.in_ok-elf.ensures.lifted c.in_ok-elf.ensures.slotted c.check_graph.new.graph.graph c.in-Yes.steps (c.in_ok-verdict.ensures.yes c.in-Yes.steps (ap Ok c.in-Yes.is)) other

pub returns-then-not-branch-clause-accepted : goal.returns-then-not-branch-clause-accepted
returns-then-not-branch-clause-accepted c =
    (lifted_is_accepted c.args.input.now c.in_ok-elf.field-0.graph.graph c.in_ok-elf.ensures.lifted, lifted_is_accepted c.args.output.now c.in_ok-_accepted._accepted.graph.graph c.in_ok-_accepted.ensures.lifted)

pub returns-clause-yes : goal.returns-clause-yes
returns-clause-yes c = λ count e.
    let is : c.in-Yes.steps ≡ count = cc e in
    let same = subst (λ bytes. c.args.output.now ≡ written bytes c.check_graph.new.graph.graph) c.in_ok-elf.ensures.read (c.in_ok-is_written.ensures.yes (ap Ok c.if-not-branch.false)) in
    subst (Proves c.args.input.now c.args.output.now c.args.cert.now) is
    (proves c.args.input.now c.args.output.now c.args.cert.now c.in_ok-elf.field-0.graph.graph c.bytes_fit.ensures c.in_ok-elf.ensures.lifted c.in_ok-elf.ensures.slotted c.check_graph.new.graph.graph c.in-Yes.steps (c.in_ok-verdict.ensures.yes c.in-Yes.steps (ap Ok c.in-Yes.is)) same)

pub returns-clause-proved : goal.returns-clause-proved
returns-clause-proved c = λ count e.
    let same = subst (λ bytes. c.args.output.now ≡ written bytes c.check_graph.new.graph.graph) c.in_ok-elf.ensures.read (c.in_ok-is_written.ensures.yes (ap Ok c.if-not-branch.false)) in
    is_proved c.args.input.now c.args.output.now c.in_ok-elf.field-0.graph.graph c.check_graph.new.graph.graph c.bytes_fit.ensures c.in_ok-elf.ensures.lifted c.in_ok-elf.ensures.fits
    (c.in_ok-verdict.ensures.lighter c.in-Yes.steps (ap Ok c.in-Yes.is)) c.in_ok-is_written.ensures.rules same

pub returns-clause-accepted : goal.returns-clause-accepted
returns-clause-accepted c =
    (lifted_is_accepted c.args.input.now c.in_ok-elf.field-0.graph.graph c.in_ok-elf.ensures.lifted, lifted_is_accepted c.args.output.now c.in_ok-_accepted._accepted.graph.graph c.in_ok-_accepted.ensures.lifted)
