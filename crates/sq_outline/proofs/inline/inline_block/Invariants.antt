use Rattle.std.proofs.Common.{◌≡◌, ◌≤◌, length}
use Rattle.sq_graph.specs.Blocks.{items_of}
use Rattle.sq_graph.specs.Room.{KeepsTotal}
use Rattle.sq_outline.specs.InlineSteps.{HasRoom}
use Rattle.sq_outline.proofs.InlineSteps.{partly}
use Rattle.sq_outline.proofs.inline.inline_block.Given as goal

abbrev pub invariant-loop-at : goal.invariant-loop-at
invariant-loop-at l = record {
  within : l.at ≤ length (items_of l.initial.graph.graph l.block);
  graph : l.graph.graph ≡ partly l.initial.graph.graph l.procedure l.block l.at;
  room : HasRoom l.procedure l.graph;
  total : KeepsTotal l.initial.graph l.graph;
}
