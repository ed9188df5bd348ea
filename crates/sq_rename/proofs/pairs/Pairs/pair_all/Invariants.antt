use Rattle.std.proofs.Common.{drop}
use Rattle.sq_graph.specs.Matches.{IsPairIn}
use Rattle.sq_rename.specs.Pairs.{IsJoining}
use Rattle.sq_rename.proofs.pairs.Pairs.pair_all.Given as goal

abbrev pub invariant-loop-k : goal.invariant-loop-k
invariant-loop-k l = IsJoining l.initial.self (IsPairIn l.registers l.others) l.self (IsPairIn (drop l.k l.registers) (drop l.k l.others))
