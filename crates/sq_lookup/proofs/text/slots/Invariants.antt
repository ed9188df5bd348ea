use Rattle.std.proofs.Common.{◌≡◌, ℕ, ◌<◌, length, get_or}
use Rattle.sq_lookup.proofs.text.slots.Given as goal

abbrev pub invariant-loop-name : goal.invariant-loop-name
invariant-loop-name l =
    record {
      count : length l.order.items ≡ l.name;
      each : (n : ℕ) → n < length l.order.items → get_or l.order.items n 0 ≡ n;
    }
