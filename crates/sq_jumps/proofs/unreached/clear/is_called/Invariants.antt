use Rattle.std.proofs.Common.{◌≡◌, true, length}
use Rattle.sq_graph.specs.Blocks.{named}
use Rattle.sq_graph.specs.Cursor.{IsPlace}
use Rattle.sq_layout.proofs.Walks.{blocks_from}
use Rattle.sq_jumps.specs.Unreached.{is_called_in}
use Rattle.sq_jumps.specs.UnreachedClear.{is_called}
use Rattle.sq_jumps.proofs.unreached.clear.is_called.Given as goal

abbrev pub invariant-loop-place : goal.invariant-loop-place
invariant-loop-place l = record {
  place : IsPlace (named l.graph.graph.blocks) l.place;
  same : is_called l.graph.graph l.number ≡ is_called_in (λ n. true) (blocks_from l.graph.graph.blocks l.place) l.number;
}

abbrev pub decreases-loop-place : goal.decreases-loop-place
decreases-loop-place l = length (blocks_from l.graph.graph.blocks l.place)
