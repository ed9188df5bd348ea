use Rattle.std.proofs.Common.{◌≡◌, ℕ, ◌<◌}
use Rattle.sq_lookup.specs.Standing.{place_at, word_at, IsPlaced}
use Rattle.sq_lookup.proofs.gathering.agree.Given as goal

abbrev pub invariant-loop-name : goal.invariant-loop-name
invariant-loop-name l =
    record {
      placed : (n : ℕ) → n < l.name → IsPlaced l.new.parts.items l.new.order.items n (place_at l.new.places.items n);
      words : (n : ℕ) → n < l.name → word_at l.new n ≡ word_at l.old n;
    }
