use Rattle.std.proofs.Common.{length}
use Rattle.sq_layout.proofs.Walks.{blocks_from}
use Rattle.sq_write.proofs.TextWalks.{AtBlock}
use Rattle.sq_write.proofs.text.push_blocks.Given as goal

abbrev pub invariant-loop-place : goal.invariant-loop-place
invariant-loop-place l = AtBlock l.placed.g.now.graph l.placed.lo l.place l.fn.out l.out

abbrev pub decreases-loop-place : goal.decreases-loop-place
decreases-loop-place l = length (blocks_from l.placed.g.now.graph.blocks l.place)
