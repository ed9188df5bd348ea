use Rattle.std.proofs.Common.{◌≡◌, length}
use Rattle.sq_graph.specs.Blocks.{named, items_of_blocks}
use Rattle.sq_graph.specs.Cursor.{IsPlace}
use Rattle.sq_graph.specs.Room.{KeepsTotal}
use Rattle.sq_graph.specs.Rules.{IsGraph}
use Rattle.sq_layout.proofs.Walks.{blocks_from}
use Rattle.sq_outline.specs.Inlined.{call_count, spread_all}
use Rattle.sq_outline.specs.InlineSteps.{HasRoom}
use Rattle.sq_outline.proofs.Spreading.{calls_in}
use Rattle.sq_outline.proofs.inline.inline_blocks.Given as goal

abbrev pub invariant-loop-place : goal.invariant-loop-place
invariant-loop-place l = record {
  rules : IsGraph l.graph.graph;
  place : IsPlace (named l.graph.graph.blocks) l.place;
  left : call_count l.graph.graph l.procedure ≡ calls_in l.procedure (items_of_blocks (blocks_from l.graph.graph.blocks l.place));
  spread : spread_all l.graph.graph l.procedure ≡ spread_all l.initial.graph.graph l.procedure;
  room : HasRoom l.procedure l.graph;
  total : KeepsTotal l.initial.graph l.graph;
}

abbrev pub decreases-loop-place : goal.decreases-loop-place
decreases-loop-place l = length (blocks_from l.graph.graph.blocks l.place)
