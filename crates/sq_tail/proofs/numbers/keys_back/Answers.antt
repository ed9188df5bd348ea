use Rattle.sq_finger.proofs.Layouts.{name_there}
use Rattle.sq_tail.proofs.numbers.keys_back.Goals as goal

pub key_back-requires : goal.key_back-requires
key_back-requires c = name_there c.args.graph.now.graph c.args.names.now c.loop-name.name-index c.requires c.loop-name-test.true
