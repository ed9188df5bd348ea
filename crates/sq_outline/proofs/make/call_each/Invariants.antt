use Rattle.std.proofs.Common.{◌≡◌, drop}
use Rattle.sq_graph.specs.Room.{KeepsTotal}
use Rattle.sq_outline.specs.Made.{starts_of}
use Rattle.sq_outline.specs.Sites.{MayCallEach, called_each}
use Rattle.sq_outline.proofs.make.call_each.Given as goal

abbrev pub invariant-loop-block : goal.invariant-loop-block
invariant-loop-block l = record {
  may : MayCallEach l.graph.graph (starts_of (drop l.block-index l.blocks)) l.procedure;
  same : called_each (starts_of l.blocks) l.procedure l.initial.graph.graph ≡ called_each (starts_of (drop l.block-index l.blocks)) l.procedure l.graph.graph;
  total : KeepsTotal l.initial.graph l.graph;
}
