use Rattle.std.proofs.Common.{◌≡◌, ◌+◌, ◌*◌, drop, length, sum_by}
use Rattle.sq_graph.specs.Graph.{Graph}
use Rattle.sq_graph.specs.Words.{block_words}
use Rattle.sq_chain.specs.Places.{placed_at}
use Rattle.sq_chain.specs.Moves.{fallen_blocks}
use Rattle.sq_chain.specs.Surveys.{IsLaidOut, IsRoom}
use Rattle.sq_chain.proofs.Placed.{IsPlacedBy}
use Rattle.sq_chain.proofs.placing.fallen_addresses.Given as goal

abbrev pub invariant-loop-i : goal.invariant-loop-i
invariant-loop-i l = record {
  room : length l.addresses ≡ length l.fn.room;
  placed : (h : Graph) → IsLaidOut h l.order → IsRoom h l.fn.room → IsPlacedBy block_words (fallen_blocks h.blocks) (placed_at l.addresses) (drop l.i (fallen_blocks h.blocks)) (4 * l.at);
  falls : (h : Graph) → IsLaidOut h l.order → l.at + l.falls + sum_by block_words (drop l.i h.blocks) ≡ sum_by block_words h.blocks;
}
