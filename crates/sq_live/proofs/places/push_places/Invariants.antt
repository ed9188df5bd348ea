use Rattle.std.proofs.Common.{◌≡◌, ℕ, ◌+◌, ◌<◌, ◌≤◌, length, drop, get_or}
use Rattle.sq_isa.specs.Registers.{is_member}
use Rattle.sq_live.specs.Effects.{before_items}
use Rattle.sq_live.proofs.places.push_places.Given as goal

abbrev pub invariant-loop-k : goal.invariant-loop-k
invariant-loop-k l = record {
  count : length l.sets.items ≡ l.start + length l.items + 1;
  old : (j : ℕ) → j < l.start → get_or l.sets.items j 0 ≡ get_or l.fn.sets.items j 0;
  live : (r : ℕ) → r < 32 → is_member l.live r ≡ before_items l.calls (drop l.k l.items) (is_member l.fn.behind r) r;
  places : (j r : ℕ) → l.k ≤ j → j ≤ length l.items → r < 32 → is_member (get_or l.sets.items (l.start + j) 0) r ≡ before_items l.calls (drop j l.items) (is_member l.fn.behind r) r;
}
