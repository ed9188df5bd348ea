use Rattle.std.proofs.Common.{◌++◌, []}
use Rattle.sq_live.specs.Search.{IsVisiting, up_to}
use Rattle.sq_live.specs.Sources.{sources_of}
use Rattle.sq_live.proofs.search.visit_all.Given as goal

abbrev pub invariant-loop-node : goal.invariant-loop-node
invariant-loop-node l = IsVisiting l.effects (sources_of l.sources) 0 [] l.sets.items (up_to l.node ++ l.waiting.items)
