use Rattle.sq_outline.specs.WindowsSwept.{IsSweeping, AreSwept}
use Rattle.sq_outline.proofs.windows.sweep.call_each.Given as goal

abbrev pub invariant-loop-at : goal.invariant-loop-at
invariant-loop-at l = record {
  sweeping : IsSweeping l.graph.graph l.taken l.after;
  swept : AreSwept l.graph.graph l.fn.taken l.graph.graph l.taken l.fn.savings l.after;
}
