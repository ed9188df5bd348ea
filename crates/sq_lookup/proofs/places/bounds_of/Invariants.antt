use Rattle.std.proofs.Common.{ℕ, ◌<◌, length}
use Rattle.sq_lookup.specs.Lowering.{nowhere}
use Rattle.sq_lookup.specs.Shifting.{IsBetween, shifted_word}
use Rattle.sq_lookup.specs.Standing.{place_at, IsIn}
use Rattle.sq_lookup.proofs.places.bounds_of.Given as goal

abbrev pub invariant-loop-slot : goal.invariant-loop-slot
invariant-loop-slot l =
    (n : ℕ) → n < length l.places → IsIn l.order l.number l.part.start l.slot n (place_at l.places n) → (place_at l.places n).words < nowhere → IsBetween l.bounds (shifted_word l.part.shift (place_at l.places n).words)
