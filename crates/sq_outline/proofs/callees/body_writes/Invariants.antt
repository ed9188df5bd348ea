use Rattle.std.proofs.Common.{◌≡◌, ℕ, List, Some, length, slice_get}
use Rattle.sq_graph.specs.Blocks.{body_of}
use Rattle.sq_outline.specs.Marks.{AreWrites}
use Rattle.sq_outline.proofs.callees.body_writes.Given as goal

abbrev pub invariant-loop-procedure : goal.invariant-loop-procedure
invariant-loop-procedure l = record {
  count : length l.writes.items ≡ l.procedure;
  each : (p : ℕ) (own : List ℕ) → slice_get l.writes.items p ≡ Some own → AreWrites (body_of l.graph.graph p) own;
}
