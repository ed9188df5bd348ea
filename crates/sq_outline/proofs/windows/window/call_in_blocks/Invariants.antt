use Rattle.std.proofs.Common.{length}
use Rattle.sq_graph.specs.Blocks.{body_of}
use Rattle.sq_graph.specs.Room.{KeepsTotal}
use Rattle.sq_graph.specs.Rules.{IsGraph}
use Rattle.sq_outline.specs.Sites.{called_each}
use Rattle.sq_outline.specs.WindowsPlaces.{calls_for}
use Rattle.sq_outline.proofs.WindowsBlocks.{AreLeft, rest_of}
use Rattle.sq_outline.proofs.windows.window.call_in_blocks.Given as goal

abbrev pub invariant-loop-place : goal.invariant-loop-place
invariant-loop-place l = record {
  rules : IsGraph l.graph.graph;
  left : AreLeft (called_each (calls_for l.fn.graph.graph (body_of l.fn.graph.graph l.procedure)) l.procedure l.fn.graph.graph) l.procedure l.place l.graph.graph;
  total : KeepsTotal l.fn.graph l.graph;
}

abbrev pub decreases-loop-place : goal.decreases-loop-place
decreases-loop-place l = length (rest_of l.graph.graph l.place)
