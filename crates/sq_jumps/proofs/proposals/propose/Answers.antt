use Rattle.std.proofs.Common.{is_some, ap, ◌∙◌}
use Rattle.sq_live.proofs.Layouts.{block_at}
use Rattle.sq_jumps.proofs.proposals.propose.Goals as goal

pub row_at-requires-clause-block : goal.row_at-requires-clause-block
row_at-requires-clause-block c =
    ap is_some (block_at c.args.graph.now.graph c.deref-name-items.result.now c.loop-name.name-index c.learn.ensures.rules (c.deref-name-items.ensures.value ∙ c.in_ok-names.ensures) c.loop-name-test.true).found
