use Rattle.sq_graph.specs.Blocks.{HasBlock}
use Rattle.sq_lookup.specs.Counts.{AreUses}
use Rattle.sq_chain.specs.Passing.{IsPassedOn}
use Rattle.sq_chain.proofs.passing.pass_branches.Given as goal

abbrev pub invariant-loop-slot : goal.invariant-loop-slot
invariant-loop-slot l = record {
  on : IsPassedOn l.bare l.next l.initial.graph.graph l.graph.graph;
  uses : AreUses l.graph.graph l.uses;
  has : HasBlock l.graph.graph l.block;
}
