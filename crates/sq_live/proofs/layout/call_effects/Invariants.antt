use Rattle.std.proofs.Common.{◌≡◌, ℕ, length, take, slice_get}
use Rattle.sq_live.specs.Effects.{IsCall}
use Rattle.sq_live.proofs.layout.call_effects.Given as goal

abbrev pub invariant-loop-procedure : goal.invariant-loop-procedure
invariant-loop-procedure l = record {
  count : length l.calls.items ≡ l.procedure;
  calls : (k : ℕ) → IsCall (slice_get l.calls.items k) (slice_get (take l.procedure l.g.graph.procedures) k);
}
