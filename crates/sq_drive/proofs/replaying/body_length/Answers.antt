use Rattle.std.proofs.Common.{◌≤◌, length, sym, ap, arith}
use Rattle.std.proofs.lemmas.Option.{slice_get_past}
use Rattle.sq_graph.specs.Blocks.{procedure_body}
use Rattle.sq_layout.proofs.Counts.{procedure_here}
use Rattle.sq_drive.proofs.replaying.body_length.Goals as goal

pub overflow_cast-result : goal.overflow_cast-result
overflow_cast-result c =
    let here = procedure_here c.args.graph.now.graph c.args.procedure c.body.result.now (omega arith) c.body.ensures in
    let body = ap length here.body_is in
    omega (arith, here.words, here.few, c.learn.ensures.few)

pub returns-else-procedure-procedures : goal.returns-else-procedure-procedures
returns-else-procedure-procedures c =
    let past : length c.args.graph.now.graph.procedures ≤ c.args.procedure = omega (arith, c.if-procedure-procedures.false, c.procedures.ensures) in
    sym (ap (λ found. length (procedure_body found)) (slice_get_past c.args.graph.now.graph.procedures c.args.procedure past))
