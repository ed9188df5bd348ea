use Rattle.std.proofs.Common.{◌≡◌, ◌+◌, ℕ, length}
use Rattle.sq_graph.specs.Blocks.{named, items_of_blocks}
use Rattle.sq_graph.specs.Cursor.{IsPlace}
use Rattle.sq_layout.proofs.Walks.{blocks_from}
use Rattle.sq_outline.specs.Inlined.{call_count}
use Rattle.sq_outline.specs.InlineSteps.{counted}
use Rattle.sq_outline.proofs.Spreading.{calls_in}
use Rattle.sq_outline.proofs.inline.count_calls.Given as goal

abbrev pub invariant-loop-place : goal.invariant-loop-place
invariant-loop-place l = record {
  place : IsPlace (named l.graph.graph.blocks) l.place;
  counts : (p : ℕ) → counted l.calls p + calls_in p (items_of_blocks (blocks_from l.graph.graph.blocks l.place)) ≡ call_count l.graph.graph p;
}

abbrev pub decreases-loop-place : goal.decreases-loop-place
decreases-loop-place l = length (blocks_from l.graph.graph.blocks l.place)
