-- Sets of words of text, in midst of being made. No public clause cites this module.
use Rattle.std.specs.Prelude.{◌≡◌, ℕ, Bool, ◌&&◌, ◌||◌}
use Rattle.sq_lift.specs.Flags.{Flags, has_word, is_flagged}

-- the words of which the test holds are added
pub record Raises (test : ℕ → Bool) (old new : Flags) : Type 0 where
  pub words : (x : ℕ) → has_word new x ≡ has_word old x
  pub flags : (x : ℕ) → is_flagged new x ≡ (is_flagged old x || (has_word old x && test x))
