use Rattle.std.proofs.Common.{◌≡◌, ℕ, ◌<◌, length}
use Rattle.sq_lookup.specs.Standing.{place_at, place_of}
use Rattle.sq_lookup.proofs.text.rooms.Given as goal

abbrev pub invariant-loop-name : goal.invariant-loop-name
invariant-loop-name l =
    record {
      count : length l.places.items ≡ l.name;
      each : (n : ℕ) → n < length l.places.items → place_at l.places.items n ≡ place_of n;
    }
