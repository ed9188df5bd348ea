use Rattle.std.proofs.Common.{◌-◌, ◌≤◌, length}
use Rattle.sq_graph.specs.Blocks.{items_of}
use Rattle.sq_outline.proofs.windows.joins.equal_from.Given as goal

abbrev pub invariant-loop-place : goal.invariant-loop-place
invariant-loop-place l = record {
  place : l.place ≤ length (items_of l.graph.graph l.block);
  behind : l.behind ≤ length (items_of l.graph.graph l.other);
}

abbrev pub decreases-loop-place : goal.decreases-loop-place
decreases-loop-place l = l.place - l.at
