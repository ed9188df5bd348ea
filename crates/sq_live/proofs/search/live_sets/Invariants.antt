use Rattle.std.proofs.Common.{[]}
use Rattle.sq_live.specs.Search.{IsVisiting, work_of}
use Rattle.sq_live.specs.Sources.{sources_of}
use Rattle.sq_live.proofs.search.live_sets.Given as goal

abbrev pub invariant-loop-node : goal.invariant-loop-node
invariant-loop-node l = IsVisiting l.effects (sources_of l.sources) 0 [] l.sets.items l.waiting.items

abbrev pub decreases-loop-node : goal.decreases-loop-node
decreases-loop-node l = work_of l.sets.items l.waiting.items
