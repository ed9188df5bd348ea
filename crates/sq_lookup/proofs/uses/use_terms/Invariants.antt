use Rattle.std.proofs.Common.{take}
use Rattle.sq_graph.specs.Uses.{terms_uses}
use Rattle.sq_lookup.specs.Names.{Adds}
use Rattle.sq_lookup.proofs.uses.use_terms.Given as goal

abbrev pub invariant-loop-name : goal.invariant-loop-name
invariant-loop-name l = Adds (terms_uses (take l.name-index l.graph.graph.blocks)) l.initial.used l.used
