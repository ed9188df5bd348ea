use Rattle.sq_finger.proofs.Layouts.{name_there}
use Rattle.sq_tail.proofs.numbers.term_keys.Goals as goal

pub resolved_term_by-resolved-requires-clause-block : goal.resolved_term_by-resolved-requires-clause-block
resolved_term_by-resolved-requires-clause-block c = name_there c.args.graph.now.graph c.args.names.now c.loop-name.name-index c.requires c.loop-name-test.true
