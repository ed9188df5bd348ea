use Rattle.std.proofs.Common.{◌≡◌, ℕ, ◌≤◌}
use Rattle.sq_lookup.specs.Shifting.{changed_word, shifted_word}
use Rattle.sq_lookup.specs.Standing.{place_at, AreMoved}
use Rattle.sq_lookup.proofs.places.move_each.Given as goal

abbrev pub invariant-loop-slot : goal.invariant-loop-slot
invariant-loop-slot l =
    record {
      moved : AreMoved (λ w. changed_word l.change (shifted_word l.part.shift w)) l.number l.to l.part.start l.slot l.order l.fn.places l.places;
      behind : (n : ℕ) → l.slot ≤ (place_at l.fn.places n).slot → place_at l.places n ≡ place_at l.fn.places n;
    }
