use Rattle.sq_lookup.specs.Counts.{AreUses}
use Rattle.sq_chain.specs.Passing.{IsHandedOn}
use Rattle.sq_chain.proofs.naming.hand_items.Given as goal

abbrev pub invariant-loop-step : goal.invariant-loop-step
invariant-loop-step l = record {
  on : IsHandedOn l.bare l.next l.initial.graph.graph l.graph.graph;
  uses : AreUses l.graph.graph l.uses;
}
