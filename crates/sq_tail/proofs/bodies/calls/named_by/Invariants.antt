use Rattle.std.proofs.Common.{◌≡◌, ◌||◌, ℕ, drop, slice_get}
use Rattle.sq_isa.specs.Registers.{is_member}
use Rattle.sq_tail.specs.BodiesPrints.{are_named, is_named_by}
use Rattle.sq_tail.proofs.bodies.calls.named_by.Given as goal

abbrev pub invariant-loop-item : goal.invariant-loop-item
invariant-loop-item l = (r : ℕ) → (is_member l.named r || are_named (drop l.item-index l.item-items) r) ≡ is_named_by (slice_get l.graph.graph.procedures l.procedure) r
