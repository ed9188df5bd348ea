use Rattle.std.proofs.Common.{◌≤◌, drop}
use Rattle.sq_lookup.specs.Names.{is_listed}
use Rattle.sq_chain.proofs.Rounds.{count_of}
use Rattle.sq_chain.proofs.Widens.{upto, IsWider}
use Rattle.sq_chain.proofs.widening.widen_each.Given as goal

abbrev pub invariant-loop-name : goal.invariant-loop-name
invariant-loop-name l = record {
  wider : IsWider l.initial.graph.graph l.graph.graph (upto (is_listed l.wide) l.initial.graph.graph l.name-index);
  spare : count_of (is_listed l.wide) (drop l.name-index l.initial.graph.graph.blocks) ≤ l.graph.spare.blocks;
}
