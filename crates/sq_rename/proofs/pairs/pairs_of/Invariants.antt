use Rattle.std.proofs.Common.{drop}
use Rattle.sq_graph.specs.Matches.{AreSameForms, IsPair}
use Rattle.sq_rename.specs.Pairs.{IsJoining}
use Rattle.sq_rename.proofs.pairs.pairs_of.Given as goal

abbrev pub invariant-loop-k : goal.invariant-loop-k
invariant-loop-k l = record {
  up : AreSameForms l.items l.others → AreSameForms (drop l.k l.items) (drop l.k l.others);
  down : AreSameForms (drop l.k l.items) (drop l.k l.others) → AreSameForms l.items l.others;
  joining : IsJoining l.initial.pairs (IsPair l.g.graph.procedures l.items l.others) l.pairs (IsPair l.g.graph.procedures (drop l.k l.items) (drop l.k l.others));
}
