use Rattle.std.proofs.Common.{◌<◌, ℕ, option_copied}
use Rattle.sq_lookup.specs.Nearby.{IsElsewhere}
use Rattle.sq_lookup.specs.Standing.{place_at}
use Rattle.sq_lookup.proofs.nearby.find.Given as goal

abbrev pub invariant-loop-number : goal.invariant-loop-number
invariant-loop-number l =
    (n : ℕ) → (place_at l.text.places.items n).part < l.number → IsElsewhere l.text (option_copied l.marks) l.first l.last n
