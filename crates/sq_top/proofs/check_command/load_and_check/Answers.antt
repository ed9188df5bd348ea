-- what was loaded is what the files held, and each part says the rest
use Rattle.std.proofs.Common.{Ok, Err, ℕ, ◌≤◌, List, length, sym, ap, subst, ◌∙◌, arith}
use Rattle.law_program.specs.FilePrograms.{IsAcceptedFile}
use Rattle.sq_desk.specs.Outside.{Outside}
use Rattle.sq_top.specs.Denials.{denied_ending}
use Rattle.sq_top.specs.CertEndings.{longest_cert}
use Rattle.sq_top.proofs.EarlyEndings.{by_residual}
use Rattle.sq_top.proofs.CertLoaded.{unaccepted_input, unaccepted_output, unloaded_cert, refused_files, certified, uncertified}
use Rattle.sq_top.proofs.check_command.load_and_check.Goals as goal

pub returns-in_err-given-clause-fails : goal.returns-in_err-given-clause-fails
returns-in_err-given-clause-fails g c =
    by_residual c.from_residual.result c.in_err-given.field-0.0 _ c.from_residual.ensures.1
    (unaccepted_input c.args.input.now c.args.output.now c.args.cert.now c.in_err-given.field-0.0 _ _ c.in_err-given.ensures.fails)

pub returns-in_err-packed-clause-fails : goal.returns-in_err-packed-clause-fails
returns-in_err-packed-clause-fails g c =
    let before : Outside = g.D.Desk.outside c.args.desk.now in
    let middle : Outside = g.D.Desk.outside c.load_accepted.new.desk in
    let after : Outside = g.D.Desk.outside c.load_accepted-2.new.desk in
    by_residual c.from_residual-in_err-packed.result c.in_err-packed.field-0.0 _ c.from_residual-in_err-packed.ensures.1
    (unaccepted_output c.args.input.now c.args.output.now c.args.cert.now before middle after c.in_ok-given.ensures.files c.in_ok-given.ensures.faults
    (λ files told. subst IsAcceptedFile (c.in_ok-given.ensures.told files told) c.in_ok-given.ensures.accepted)
    c.in_err-packed.field-0.0 c.in_err-packed.ensures.fails)

pub returns-in_err-text-clause-fails : goal.returns-in_err-text-clause-fails
returns-in_err-text-clause-fails g c =
    let before : Outside = g.D.Desk.outside c.args.desk.now in
    let middle : Outside = g.D.Desk.outside c.load_accepted-2.new.desk in
    let after : Outside = g.D.Desk.outside c.load.new.desk in
    by_residual c.from_residual-in_err-text.result c.in_err-text.field-0.0 _ c.from_residual-in_err-text.ensures.1
    (unloaded_cert c.args.input.now c.args.output.now c.args.cert.now before middle after (c.in_ok-packed.ensures.files ∙ c.in_ok-given.ensures.files)
    (λ place. omega (arith, c.in_ok-given.ensures.faults place, c.in_ok-packed.ensures.faults place))
    (λ files told. subst IsAcceptedFile (c.in_ok-given.ensures.told files told) c.in_ok-given.ensures.accepted)
    (λ files told. subst IsAcceptedFile (c.in_ok-packed.ensures.told files (c.in_ok-given.ensures.files ∙ told)) c.in_ok-packed.ensures.accepted)
    c.in_err-text.field-0.0 c.in_err-text.ensures.fails)

pub returns-in_err-steps-clause-fails : goal.returns-in_err-steps-clause-fails
returns-in_err-steps-clause-fails g c =
    by_residual c.from_residual-in_err-steps.result (denied_ending c.in_err-steps.field-0.0) _ c.from_residual-in_err-steps.ensures.1
    (refused_files c.args.input.now c.args.output.now c.args.cert.now c.in_err-steps.field-0.0 _ _ c.as_slice.result.now c.as_slice-2.result.now
    (λ files told. c.as_slice.ensures.value ∙ c.in_ok-given.ensures.told files told)
    (λ files told. c.as_slice-2.ensures.value ∙ c.in_ok-packed.ensures.told files (c.in_ok-given.ensures.files ∙ told))
    (λ refusal is. c.in_err-steps.ensures.refused refusal (ap Err is)))

pub returns-in-Yes-clause-proves : goal.returns-in-Yes-clause-proves
returns-in-Yes-clause-proves g c = λ files told.
    certified c.args.input.now c.args.output.now c.args.cert.now files c.as_slice.result.now c.as_slice-2.result.now c.as_slice-3.result.now
    (c.as_slice.ensures.value ∙ c.in_ok-given.ensures.told files told)
    (c.as_slice-2.ensures.value ∙ c.in_ok-packed.ensures.told files (c.in_ok-given.ensures.files ∙ told))
    (c.as_slice-3.ensures.value ∙ c.in_ok-text.ensures.told files (c.in_ok-packed.ensures.files ∙ c.in_ok-given.ensures.files ∙ told))
    c.in_ok-steps.ensures.accepted (subst (λ (y : List ℕ). length y ≤ longest_cert) (sym c.as_slice-3.ensures.value) c.in_ok-text.ensures.within)
    c.in-Yes.steps (c.in_ok-steps.ensures.yes c.in-Yes.steps (ap Ok c.in-Yes.is)) (c.in_ok-steps.ensures.proved c.in-Yes.steps (ap Ok c.in-Yes.is))

pub returns-clause-fails : goal.returns-clause-fails
returns-clause-fails g c = λ files told.
    uncertified c.args.input.now c.args.output.now c.args.cert.now files c.as_slice.result.now c.as_slice-2.result.now c.as_slice-3.result.now
    (c.as_slice.ensures.value ∙ c.in_ok-given.ensures.told files told)
    (c.as_slice-2.ensures.value ∙ c.in_ok-packed.ensures.told files (c.in_ok-given.ensures.files ∙ told))
    (c.as_slice-3.ensures.value ∙ c.in_ok-text.ensures.told files (c.in_ok-packed.ensures.files ∙ c.in_ok-given.ensures.files ∙ told))
    c.in_ok-steps.ensures.accepted (subst (λ (y : List ℕ). length y ≤ longest_cert) (sym c.as_slice-3.ensures.value) c.in_ok-text.ensures.within)
    c.in-No.line (c.in_ok-steps.ensures.no c.in-No.line (ap Ok c.in-No.is)) (c.in_ok-steps.ensures.only c.in-No.line (ap Ok c.in-No.is))
