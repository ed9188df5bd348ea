use Rattle.std.proofs.Common.{length}
use Rattle.sq_arena.specs.Entries.{starting_at}
use Rattle.sq_graph.specs.Blocks.{named}
use Rattle.sq_chain.proofs.Chains.{IsOnChain}
use Rattle.sq_chain.proofs.chain.end_of_chain.Given as goal

abbrev pub invariant-loop-at : goal.invariant-loop-at
invariant-loop-at l = record { on : IsOnChain l.graph.graph l.to l.from l.at }

abbrev pub decreases-loop-at : goal.decreases-loop-at
decreases-loop-at l = length (starting_at (named l.graph.graph.blocks) l.at)
