-- what was loaded is what the files held, and each part says the rest
use Rattle.std.proofs.Common.{Err, ℕ, ◌≤◌, List, length, sym, ap, subst, ◌∙◌}
use Rattle.law_program.specs.FilePrograms.{IsAcceptedFile}
use Rattle.sq_desk.specs.Outside.{Outside}
use Rattle.sq_top.specs.Denials.{track_fault_ending}
use Rattle.sq_top.specs.CertEndings.{longest_cert}
use Rattle.sq_top.proofs.EarlyEndings.{by_residual}
use Rattle.sq_top.proofs.NamesLoaded.{unaccepted_input, unloaded_cert, named, unnamed}
use Rattle.sq_top.proofs.names_command.load_and_name.Goals as goal

pub returns-in_err-given-clause-fails : goal.returns-in_err-given-clause-fails
returns-in_err-given-clause-fails g c =
    by_residual c.from_residual.result c.in_err-given.field-0.0 _ c.from_residual.ensures.1
    (unaccepted_input c.args.input.now c.args.cert.now c.in_err-given.field-0.0 _ _ c.in_err-given.ensures.fails)

pub returns-in_err-text-clause-fails : goal.returns-in_err-text-clause-fails
returns-in_err-text-clause-fails g c =
    let before : Outside = g.D.Desk.outside c.args.desk.now in
    let middle : Outside = g.D.Desk.outside c.load_accepted.new.desk in
    let after : Outside = g.D.Desk.outside c.load.new.desk in
    by_residual c.from_residual-in_err-text.result c.in_err-text.field-0.0 _ c.from_residual-in_err-text.ensures.1
    (unloaded_cert c.args.input.now c.args.cert.now before middle after c.in_ok-given.ensures.files c.in_ok-given.ensures.faults
    (λ files told. subst IsAcceptedFile (c.in_ok-given.ensures.told files told) c.in_ok-given.ensures.accepted)
    c.in_err-text.field-0.0 c.in_err-text.ensures.fails)

pub returns-in_err-lines_of-clause-fails : goal.returns-in_err-lines_of-clause-fails
returns-in_err-lines_of-clause-fails g c =
    by_residual c.from_residual-in_err-lines_of.result (track_fault_ending c.in_err-lines_of.field-0.0) _ c.from_residual-in_err-lines_of.ensures.1
    (unnamed c.args.input.now c.args.cert.now _ _ c.as_slice.result.now c.as_slice-2.result.now
    (λ files told. c.as_slice.ensures.value ∙ c.in_ok-given.ensures.told files told)
    (λ files told. c.as_slice-2.ensures.value ∙ c.in_ok-text.ensures.told files (c.in_ok-given.ensures.files ∙ told))
    (subst IsAcceptedFile (sym c.as_slice.ensures.value) c.in_ok-given.ensures.accepted)
    (subst (λ (y : List ℕ). length y ≤ longest_cert) (sym c.as_slice-2.ensures.value) c.in_ok-text.ensures.within)
    c.in_err-lines_of.field-0.0
    (λ line is. c.in_err-lines_of.ensures.line line (ap Err is)) (λ line is. c.in_err-lines_of.ensures.only line (ap Err is)) (λ refusal is. c.in_err-lines_of.ensures.refused refusal (ap Err is)))

pub returns-clause-tells : goal.returns-clause-tells
returns-clause-tells g c =
    let before : Outside = g.D.Desk.outside c.args.desk.now in
    let after : Outside = g.D.Desk.outside c.load.new.desk in
    named c.args.input.now c.args.cert.now before after c.as_slice.result.now c.as_slice-2.result.now
    (λ files told. c.as_slice.ensures.value ∙ c.in_ok-given.ensures.told files told)
    (λ files told. c.as_slice-2.ensures.value ∙ c.in_ok-text.ensures.told files (c.in_ok-given.ensures.files ∙ told))
    (subst IsAcceptedFile (sym c.as_slice.ensures.value) c.in_ok-given.ensures.accepted)
    (subst (λ (y : List ℕ). length y ≤ longest_cert) (sym c.as_slice-2.ensures.value) c.in_ok-text.ensures.within)
    c.in_ok-lines_of.field-0.items c.in_ok-lines_of.ensures.lines
