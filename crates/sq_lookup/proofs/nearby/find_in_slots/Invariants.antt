use Rattle.std.proofs.Common.{ℕ, option_copied}
use Rattle.sq_lookup.specs.Nearby.{IsElsewhere}
use Rattle.sq_lookup.specs.Standing.{place_at, IsIn}
use Rattle.sq_lookup.proofs.nearby.find_in_slots.Given as goal

abbrev pub invariant-loop-slot : goal.invariant-loop-slot
invariant-loop-slot l =
    (n : ℕ) → IsIn l.text.order.items (place_at l.text.places.items n).part l.fn.part.start l.slot n (place_at l.text.places.items n) → IsElsewhere l.text (option_copied l.fn.marks) l.first l.last n
