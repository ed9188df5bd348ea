use Rattle.sq_finger.proofs.Layouts.{name_there}
use Rattle.sq_finger.proofs.classing.kinds.Goals as goal

pub items-items-requires : goal.items-items-requires
items-items-requires c = name_there c.args.graph.now.graph c.args.names.now c.loop-name.name-index c.requires.names c.loop-name-test.true
