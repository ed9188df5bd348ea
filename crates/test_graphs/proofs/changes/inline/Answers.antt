use Rattle.std.proofs.Common.{ap, is_some}
use Rattle.sq_graph.proofs.OperationRules.{inlined_rules}
use Rattle.test_graphs.proofs.changes.inline.Goals as goal

pub inline-requires-clause-rules : goal.inline-requires-clause-rules
inline-requires-clause-rules c =
    inlined_rules c.args.graph.now.graph c.args.block c.args.at c.learn.ensures.rules (c.called.ensures.block (ap is_some c.in_ok-procedure.was))
