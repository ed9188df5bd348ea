use Rattle.std.proofs.Common.{ℕ, List, drop}
use Rattle.sq_graph.specs.Graph.{Procedure}
use Rattle.sq_graph.specs.Matches.{AreSameForms, IsPair}
use Rattle.sq_rename.proofs.apart.are_live_apart.Given as goal

abbrev pub invariant-loop-k : goal.invariant-loop-k
invariant-loop-k l = record {
  forms : AreSameForms l.items l.others → AreSameForms (drop l.k l.items) (drop l.k l.others);
  pairs : (ps : List Procedure) (r s : ℕ) → IsPair ps (drop l.k l.items) (drop l.k l.others) r s → IsPair ps l.items l.others r s;
}
