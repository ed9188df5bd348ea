use Rattle.sq_outline.proofs.Calling.{no_call}
use Rattle.sq_outline.proofs.call.find_called.Goals as goal

pub returns-clause-none : goal.returns-clause-none
returns-clause-none c = λ e cut candidate. no_call c.args.graph.now.graph c.args.names.now c.requires.names (c.find_call.ensures.none c.in-None.is) cut candidate
