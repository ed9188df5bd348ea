use Rattle.std.proofs.Common.{is_some, ap}
use Rattle.sq_live.proofs.Layouts.{block_at}
use Rattle.sq_jumps.proofs.jumps.first_row.Goals as goal

pub row_at-requires-clause-block : goal.row_at-requires-clause-block
row_at-requires-clause-block c =
    let b = block_at c.args.graph.now.graph c.args.names.now c.loop-name.name-index c.requires.rules c.requires.names c.loop-name-test.true in
    ap is_some b.found
