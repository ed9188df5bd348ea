-- A search over the words of text, in midst. No public clause cites this module.
use Rattle.std.specs.Prelude.{◌≡◌, ℕ, ◌+◌, Bool, ◌&&◌, ◌||◌, not, List, length, nat_eq, count_by}
use Rattle.std.specs.Set.{is_member}
use Rattle.sq_lift.specs.Flags.{Flags, has_word, is_flagged}

-- the reached words, and the addresses of those of them that are yet to be looked at
pub record Found : Type 0 where
  pub reached : Flags
  pub waiting : List ℕ

abbrev pub is_among : List ℕ → ℕ → Bool
is_among xs x = is_member nat_eq xs x

-- how many words have no flag
abbrev pub unflagged_count : Flags → ℕ
unflagged_count f = count_by not f.flags

-- the words at these addresses were reached, and those that are new wait
pub record Reaches (xs : List ℕ) (old new : Found) : Type 0 where
  pub words : (x : ℕ) → has_word new.reached x ≡ has_word old.reached x
  pub reached : (x : ℕ) → is_flagged new.reached x ≡ (is_flagged old.reached x || (has_word old.reached x && is_among xs x))
  pub waiting : (x : ℕ) → is_among new.waiting x ≡ (is_among old.waiting x || ((has_word old.reached x && is_among xs x) && not (is_flagged old.reached x)))
  pub left : unflagged_count new.reached + length new.waiting ≡ unflagged_count old.reached + length old.waiting
