use Rattle.std.proofs.Common.{ap, sym, is_some, ◌∙◌}
use Rattle.sq_graph.proofs.OperationRules.{moves_on}
use Rattle.test_graphs.proofs.changes.move_on.Goals as goal

pub move_after-requires-clause-run : goal.move_after-requires-clause-run
move_after-requires-clause-run c =
    (moves_on c.args.graph.now.graph c.args.block c.in_ok-after.after c.learn.ensures.rules (c.is_block.ensures c.if-not-is_block.false) (sym c.next.ensures ∙ c.in_ok-after.was) (ap is_some (sym c.next-2.ensures ∙ c.in_ok-_last.was))).run

pub move_after-requires-clause-after : goal.move_after-requires-clause-after
move_after-requires-clause-after c =
    (moves_on c.args.graph.now.graph c.args.block c.in_ok-after.after c.learn.ensures.rules (c.is_block.ensures c.if-not-is_block.false) (sym c.next.ensures ∙ c.in_ok-after.was) (ap is_some (sym c.next-2.ensures ∙ c.in_ok-_last.was))).after

pub move_after-requires-clause-rules : goal.move_after-requires-clause-rules
move_after-requires-clause-rules c =
    (moves_on c.args.graph.now.graph c.args.block c.in_ok-after.after c.learn.ensures.rules (c.is_block.ensures c.if-not-is_block.false) (sym c.next.ensures ∙ c.in_ok-after.was) (ap is_some (sym c.next-2.ensures ∙ c.in_ok-_last.was))).rules
