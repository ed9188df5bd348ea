-- A place in the list of an arena, as a loop that goes through the list keeps it: a key, or `None` at the end.
-- No public clause cites this module.
use Rattle.std.specs.Prelude.{ℕ, ◌+◌, List, [], ◌∷◌, map, Option, None, Some}
use Rattle.std.specs.List.{flat_map}
use Rattle.sq_arena.specs.Entries.{ContainsKey, before, starting_at}
use Rattle.sq_graph.specs.declared.slot.Slot.{Slot}
use Rattle.sq_graph.specs.Uses.{term_uses}
use Rattle.sq_graph.specs.Renames.{retargeted_term}

module _ {T : Type 0} where
  abbrev pub IsPlace : List (ℕ × T) → Option ℕ → Type 0
  IsPlace entries None = Unit {0}
  IsPlace entries (Some key) = ContainsKey entries key

  -- the pairs ahead of the place, and those from it on
  abbrev pub ahead_of : List (ℕ × T) → Option ℕ → List (ℕ × T)
  ahead_of entries None = entries
  ahead_of entries (Some key) = before entries key

  abbrev pub rest_from : List (ℕ × T) → Option ℕ → List (ℕ × T)
  rest_from entries None = []
  rest_from entries (Some key) = starting_at entries key

-- each slot with another term
abbrev pub retargeted_slots : (ℕ → ℕ) → List (ℕ × Slot) → List (ℕ × Slot)
retargeted_slots f entries = map (λ e. (e.0, record e.1 { term = retargeted_term f e.1.term })) entries

abbrev pub slot_uses : List (ℕ × Slot) → List ℕ
slot_uses entries = flat_map (λ e. term_uses e.1.term) entries

-- each slot starts where the one before ends, the first one here
abbrev pub renumbered : ℕ → List (ℕ × Slot) → List (ℕ × Slot)
renumbered start [] = []
renumbered start (e ∷ rest) = (e.0, record e.1 { start = start }) ∷ renumbered (start + e.1.length) rest

abbrev pub length_of_slots : List (ℕ × Slot) → ℕ
length_of_slots [] = 0
length_of_slots (e ∷ rest) = e.1.length + length_of_slots rest
