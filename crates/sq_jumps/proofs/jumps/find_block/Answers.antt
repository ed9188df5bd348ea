use Rattle.std.proofs.Common.{refl}
use Rattle.sq_jumps.proofs.Cutting.{no_cut}
use Rattle.sq_jumps.proofs.jumps.find_block.Goals as goal

pub returns-clause-none : goal.returns-clause-none
returns-clause-none c = λ none. no_cut c.args.graph.now.graph c.args.names.now c.requires.names (c.in-None.ensures.none refl)
