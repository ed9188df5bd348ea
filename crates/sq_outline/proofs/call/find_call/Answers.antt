use Rattle.std.proofs.Common.{is_some, ap}
use Rattle.sq_live.proofs.Layouts.{block_at}
use Rattle.sq_outline.proofs.call.find_call.Goals as goal

pub procedure_by_print-requires-clause-block : goal.procedure_by_print-requires-clause-block
procedure_by_print-requires-clause-block c =
    ap is_some (block_at c.args.graph.now.graph c.args.names.now c.loop-name.name-index c.learn.ensures.rules c.requires.names c.loop-name-test.true).found
