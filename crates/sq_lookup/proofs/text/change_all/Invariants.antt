use Rattle.std.proofs.Common.{◌≡◌, ℕ, ◌<◌, ◌≤◌, length}
use Rattle.sq_lookup.specs.Shifting.{changed_word}
use Rattle.sq_lookup.specs.Standing.{place_at, word_at, IsKept}
use Rattle.sq_lookup.proofs.text.change_all.Given as goal

abbrev pub invariant-loop-number : goal.invariant-loop-number
invariant-loop-number l =
    record {
      kept : IsKept l.text;
      count : length l.text.places.items ≡ length l.fn.text.places.items;
      parts : length l.text.parts.items ≡ length l.fn.text.parts.items;
      done : (n : ℕ) → n < length l.fn.text.places.items → (place_at l.text.places.items n).part < l.number → word_at l.text n ≡ changed_word l.change (word_at l.fn.text n);
      rest : (n : ℕ) → n < length l.fn.text.places.items → l.number ≤ (place_at l.text.places.items n).part → word_at l.text n ≡ word_at l.fn.text n;
    }
