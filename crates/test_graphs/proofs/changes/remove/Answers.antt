use Rattle.std.proofs.Common.{ap, sym, is_some, ◌∙◌}
use Rattle.sq_graph.proofs.OperationRules.{without_block_rules}
use Rattle.test_graphs.proofs.changes.remove.Goals as goal

pub remove-requires-clause-rules : goal.remove-requires-clause-rules
remove-requires-clause-rules c =
    without_block_rules c.redirect.new.graph.graph c.args.block c.learn.ensures.rules (c.is_block.ensures c.if-not-is_block.false)
    (c.redirect.ensures (ap is_some c.in_ok-redirect.was)) (ap is_some (sym c.next.ensures ∙ c.in_ok-_next.was))
