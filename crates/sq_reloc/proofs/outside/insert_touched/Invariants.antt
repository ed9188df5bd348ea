use Rattle.std.proofs.Common.{◌≡◌, ℕ, ◌+◌, ◌||◌, ◌&&◌, nat_eq, nat_le, nat_lt}
use Rattle.std.specs.HashSet as set
use Rattle.sq_reloc.proofs.outside.insert_touched.Given as goal

abbrev pub invariant-loop-place : goal.invariant-loop-place
invariant-loop-place l =
    (address : ℕ) → set.contains nat_eq l.stale address ≡ (set.contains nat_eq l.fn.stale address || (nat_le l.entry.offset address && nat_lt address (l.entry.offset + l.place)))
