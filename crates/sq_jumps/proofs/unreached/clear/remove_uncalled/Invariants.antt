use Rattle.std.proofs.Common.{◌≡◌, ◌≤◌, IfSome, length, option_copied}
use Rattle.sq_graph.specs.Room.{KeepsTotal}
use Rattle.sq_jumps.specs.UnreachedClear.{TellsCalled, without_uncalled}
use Rattle.sq_jumps.proofs.unreached.clear.remove_uncalled.Given as goal

abbrev pub invariant-loop-number : goal.invariant-loop-number
invariant-loop-number l = record {
  within : l.number ≤ length l.graph.graph.procedures;
  told : IfSome (option_copied l.called) (TellsCalled l.graph.graph l.number);
  same : without_uncalled (length l.initial.graph.graph.procedures) l.initial.graph.graph ≡ without_uncalled l.number l.graph.graph;
  total : KeepsTotal l.initial.graph l.graph;
}
