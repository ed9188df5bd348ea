use Rattle.std.proofs.Common.{◌-◌, length}
use Rattle.sq_reach.proofs.Searches.{IsSearch}
use Rattle.sq_reach.proofs.reach.reachable.Given as goal

abbrev pub invariant-loop-block : goal.invariant-loop-block
invariant-loop-block l = IsSearch l.g.graph l.search

-- the blocks that were not looked at yet
abbrev pub decreases-loop-block : goal.decreases-loop-block
decreases-loop-block l = length l.g.graph.blocks - (length l.search.reached - length l.search.waiting)
