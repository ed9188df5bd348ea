-- Slots some of which don't have their starts yet. No public clause cites this module.
use Rattle.std.specs.Prelude.{◌≡◌, ℕ, ◌+◌, List, [], ◌∷◌, ◌++◌, Option}
use Rattle.sq_arena.specs.Entries.{first_key}
use Rattle.sq_graph.specs.declared.slot.Slot.{Slot}
use Rattle.sq_graph.specs.Cursor.{renumbered, length_of_slots}

-- these names have the numbers from k on
abbrev pub AreNumbered : (ℕ → ℕ) → ℕ → List ℕ → Type 0
AreNumbered f k [] = Unit {0}
AreNumbered f k (n ∷ names) = (f n ≡ k) × AreNumbered f (k + 1) names

-- each slot has its start, the first one here
abbrev pub IsNumbered : ℕ → List (ℕ × Slot) → Type 0
IsNumbered start entries = renumbered start entries ≡ entries

-- each slot has its position in place of its start, the first one this position
abbrev pub with_positions : ℕ → List (ℕ × Slot) → List (ℕ × Slot)
with_positions position [] = []
with_positions position (e ∷ rest) = (e.0, record e.1 { start = position }) ∷ with_positions (position + 1) rest

-- where one slot has its start, so have those behind it
abbrev pub Settles : ℕ → List (ℕ × Slot) → Type 0
Settles start [] = Unit {0}
Settles start (e ∷ rest) =
    (e.1.start ≡ start → IsNumbered (start + e.1.length) rest) × Settles (start + e.1.length) rest

-- Two pieces of numbered slots that follow each other have changed places, and each slot keeps its old start. The
-- first piece is at the place `front` now, which is to start here, and the second at `back`, which is to start in
-- the middle.
pub record Exchanges (entries : List (ℕ × Slot)) (front : Option ℕ) (start : ℕ) (back : Option ℕ) (middle : ℕ) : Type 0 where
  pub ahead : List (ℕ × Slot)
  pub first : List (ℕ × Slot)
  pub second : List (ℕ × Slot)
  pub rest : List (ℕ × Slot)
  pub is : entries ≡ ahead ++ (first ++ (second ++ rest))
  pub was : IsNumbered 0 (ahead ++ (second ++ (first ++ rest)))
  pub front_is : front ≡ first_key (first ++ (second ++ rest))
  pub start_is : start ≡ length_of_slots ahead
  pub back_is : back ≡ first_key (second ++ rest)
  pub middle_is : middle ≡ length_of_slots ahead + length_of_slots first
