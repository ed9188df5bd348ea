use Rattle.std.proofs.Common.{◌≡◌, ◌≤◌, take}
use Rattle.sq_graph.specs.Graph.{Graph}
use Rattle.sq_graph.specs.Blocks.{term_of}
use Rattle.sq_lookup.specs.Addresses.{address_at}
use Rattle.sq_chain.specs.Places.{placed_at}
use Rattle.sq_chain.specs.Least.{is_short}
use Rattle.sq_chain.specs.Surveys.{IsLaidOut}
use Rattle.sq_chain.proofs.Rounds.{count_of}
use Rattle.sq_chain.proofs.counting.count_short.Given as goal

abbrev pub invariant-loop-extent : goal.invariant-loop-extent
invariant-loop-extent l = record {
  most : l.short ≤ l.most;
  count : (h : Graph) → IsLaidOut h l.order → l.short ≡ count_of (λ n. is_short (address_at (placed_at l.addresses)) h n (term_of h n)) (take l.extent-index h.blocks);
}
