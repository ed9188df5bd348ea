use Rattle.std.proofs.Common.{◌≡◌, ℕ, ◌<◌, Some, length, slice_get}
use Rattle.sq_isa.specs.Registers.{is_member}
use Rattle.sq_outline.specs.Marks.{is_written_at}
use Rattle.sq_outline.proofs.marks.Writes.of.Given as goal

abbrev pub invariant-loop-bit : goal.invariant-loop-bit
invariant-loop-bit l = record {
  count : length l.sets ≡ 5;
  each : (bit set : ℕ) → bit < l.bit → slice_get l.sets bit ≡ Some set → (r : ℕ) → is_member set r ≡ is_written_at bit 1 l.items r;
}
