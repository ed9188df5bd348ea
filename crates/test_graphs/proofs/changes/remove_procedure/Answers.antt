use Rattle.std.proofs.Common.{ap, is_some, arith}
use Rattle.sq_graph.proofs.OperationRules.{without_procedure_rules}
use Rattle.test_graphs.proofs.changes.remove_procedure.Goals as goal

pub remove_procedure-requires-clause-rules : goal.remove_procedure-requires-clause-rules
remove_procedure-requires-clause-rules c =
    without_procedure_rules c.redirect_calls.new.graph.graph c.args.procedure c.learn.ensures.rules (omega (arith, c.procedures.ensures, c.if-procedures-procedure.false)) (c.redirect_calls.ensures (ap is_some c.in_ok-redirect_calls.was))
