use Rattle.std.proofs.Common.{◌≡◌, ℕ, Option, Some, length, nat_eq, slice_get}
use Rattle.std.specs.Prelude.{slice_index}
use Rattle.std.specs.HashMap.{get}
use Rattle.sq_tail.specs.BodiesEarlier.{IsLast}
use Rattle.sq_tail.proofs.bodies.earlier.earlier_places.Given as goal

abbrev pub invariant-loop-i : goal.invariant-loop-i
invariant-loop-i l = record {
  many : length l.places.items ≡ l.i;
  earlier : (i : ℕ) (place : Option ℕ) → slice_get l.places.items i ≡ Some place → IsLast l.keys (slice_index l.keys i) i place;
  last : (key : ℕ) → IsLast l.keys key l.i (get nat_eq l.last key);
}
