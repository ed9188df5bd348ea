use Rattle.std.proofs.Common.{◌≡◌, ◌<◌, ℕ, length, slice_get}
use Rattle.std.specs.Prelude.{slice_index}
use Rattle.sq_isa.specs.Registers.{is_member}
use Rattle.sq_tail.specs.BodiesPrints.{is_named_by}
use Rattle.sq_tail.proofs.bodies.calls.all_named.Given as goal

abbrev pub invariant-loop-procedure : goal.invariant-loop-procedure
invariant-loop-procedure l = record {
  many : length l.sets.items ≡ l.procedure;
  each : (p r : ℕ) → p < length l.sets.items → is_member (slice_index l.sets.items p) r ≡ is_named_by (slice_get l.graph.graph.procedures p) r;
}
