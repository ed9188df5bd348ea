use Rattle.sq_finger.proofs.Layouts.{name_there}
use Rattle.sq_outline.proofs.groups.prints.Goals as goal

pub block_print-requires : goal.block_print-requires
block_print-requires c = name_there c.args.graph.now.graph c.args.names.now c.loop-name.name-index c.requires c.loop-name-test.true
