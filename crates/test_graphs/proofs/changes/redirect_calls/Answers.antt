use Rattle.std.proofs.Common.{sym, arith}
use Rattle.sq_graph.proofs.OperationRules.{redirected_calls_rules, redirected_calls_unused}
use Rattle.test_graphs.proofs.changes.redirect_calls.Goals as goal

pub redirect_calls-requires : goal.redirect_calls-requires
redirect_calls-requires c = record { rules = redirected_calls_rules c.args.graph.now.graph c.args.from c.args.to c.learn.ensures.rules (omega (arith, c.procedures.ensures, c.if-procedures-to.false)) }

pub returns : goal.returns
returns c = λ some. rw c.redirect_calls.ensures.graph (redirected_calls_unused c.args.graph.now.graph c.args.from c.args.to (λ same. c.if-from-to.false (sym same)) c.learn.ensures.rules)
