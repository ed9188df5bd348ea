-- the readers' refusals are those of the file
use Rattle.std.proofs.Common.{◌≡◌, Err, ap}
use Rattle.std.proofs.lemmas.Result.{err_from_is_err_and}
use Rattle.sq_num.specs.declared.refusal.Denied.TheVariants.{Refused}
use Rattle.law_program.specs.FilePrograms.IsRefusalOf.{by_relocs}
use Rattle.sq_top.proofs.Refusals.{lift_refused}
use Rattle.sq_top.proofs.watch_command.accepted_relocs.Goals as goal

pub returns-in_err-relocs-clause-refused : goal.returns-in_err-relocs-clause-refused
returns-in_err-relocs-clause-refused c = λ refusal is.
    let p = err_from_is_err_and c.from_residual.result c.from_residual.ensures.1 in
    let same : c.in_err-relocs.field-0.0 ≡ Refused refusal = cc (p.1, p.2, is) in
    by_relocs c.bytes.ensures.accepted (c.in_err-relocs.ensures.refused refusal (ap Err same))

pub returns-in_err-_graph-clause-refused : goal.returns-in_err-_graph-clause-refused
returns-in_err-_graph-clause-refused c = λ refusal is.
    let p = err_from_is_err_and c.from_residual-in_err-_graph.result c.from_residual-in_err-_graph.ensures.1 in
    let same : c.in_err-_graph.field-0.0 ≡ Refused refusal = cc (p.1, p.2, is) in
    lift_refused c.args.elf.now refusal (c.in_err-_graph.ensures.refused refusal (ap Err same))
