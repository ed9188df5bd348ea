-- Pieces of a list that change places. No public clause cites this module.
use Rattle.std.specs.Prelude.{ℕ, ◌-◌, ◌++◌, List, take, drop, nat_le, if◌then◌else◌}

module _ {T : Type 0} where
  -- the piece up to `mid` and the piece from it on, exchanged
  abbrev pub exchanged : List T → ℕ → ℕ → ℕ → List T
  exchanged xs from mid to = take from xs ++ ((take (to - mid) (drop mid xs) ++ take (mid - from) (drop from xs)) ++ drop to xs)

  -- the piece from `start` up to `end` at a place outside of it
  abbrev pub moved_piece : List T → ℕ → ℕ → ℕ → List T
  moved_piece xs start end place =
      if nat_le place start then exchanged xs place start end else exchanged xs start end place
