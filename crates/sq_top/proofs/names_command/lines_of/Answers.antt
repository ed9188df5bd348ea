-- the file is the one that was tracked
use Rattle.std.proofs.Common.{◌≡◌, Err, ap}
use Rattle.std.proofs.lemmas.Result.{err_from_is_err_and}
use Rattle.sq_num.specs.declared.refusal.Denied.TheVariants.{Refused}
use Rattle.law_program.specs.FilePrograms.IsRefusalOf.{by_file}
use Rattle.sq_top.specs.declared.tracks.TrackFault.TheVariants.{Denied, Line}
use Rattle.sq_top.proofs.NamesLoaded.{lines_told}
use Rattle.sq_top.proofs.names_command.lines_of.Goals as goal

pub returns-in_err-tracks-clause-line : goal.returns-in_err-tracks-clause-line
returns-in_err-tracks-clause-line c = λ line is.
    let p = err_from_is_err_and c.from_residual.result c.from_residual.ensures.1 in
    let same : c.in_err-tracks.field-0.0 ≡ Line line = cc (p.1, p.2, is) in
    c.in_err-tracks.ensures.line line (ap Err same)

pub returns-in_err-tracks-clause-only : goal.returns-in_err-tracks-clause-only
returns-in_err-tracks-clause-only c = λ line is.
    let p = err_from_is_err_and c.from_residual.result c.from_residual.ensures.1 in
    let same : c.in_err-tracks.field-0.0 ≡ Line line = cc (p.1, p.2, is) in
    c.in_err-tracks.ensures.only line (ap Err same)

pub returns-in_err-tracks-clause-refused : goal.returns-in_err-tracks-clause-refused
returns-in_err-tracks-clause-refused c = λ refusal is.
    let p = err_from_is_err_and c.from_residual.result c.from_residual.ensures.1 in
    let same : c.in_err-tracks.field-0.0 ≡ Denied (Refused refusal) = cc (p.1, p.2, is) in
    c.in_err-tracks.ensures.refused refusal (ap Err same)

pub returns-in_err-elf-clause-refused : goal.returns-in_err-elf-clause-refused
returns-in_err-elf-clause-refused c = λ refusal is.
    let p = err_from_is_err_and c.from_residual-in_err-elf.result c.from_residual-in_err-elf.ensures.1 in
    let same : c.in_err-elf.field-0.0 ≡ Refused refusal = cc (p.1, p.2, is) in
    by_file (c.in_err-elf.ensures.refused refusal (ap Err same))

pub returns-clause-lines : goal.returns-clause-lines
returns-clause-lines c =
    lines_told c.args.input.now c.args.cert.now c.in_ok-elf.elf c.in_ok-tracks.tracks c.in_ok-names.names c.in_ok-names_text.field-0.items c.in_ok-elf.ensures.read c.in_ok-tracks.ensures.tracked c.in_ok-tracks.ensures.agree c.in_ok-names.ensures.value c.in_ok-names_text.ensures
