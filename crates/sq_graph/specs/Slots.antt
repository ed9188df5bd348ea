-- How the blocks and procedures of a graph stand in its arena and its vectors.
use Rattle.std.specs.Prelude.{ℕ, ◌+◌, ◌-◌, List, [], ◌∷◌, map, length}
use Rattle.sq_graph.specs.declared.slot.Slot.{Slot}
use Rattle.sq_graph.specs.declared.slot.Body.{Body}
use Rattle.sq_graph.specs.Graph.{Block, Procedure}

abbrev pub slot_of : ℕ → Block → Slot
slot_of start b = record { start = start; length = length b.items; term = b.term }

-- each block under its name, with the place where its items start: the sum of the lengths before
abbrev pub slots_from : ℕ → List Block → List (ℕ × Slot)
slots_from start [] = []
slots_from start (b ∷ rest) = (b.name, slot_of start b) ∷ slots_from (start + length b.items) rest

-- each block under its name, wherever its items are
abbrev pub slots_of : List Block → List (ℕ × Slot)
slots_of blocks = map (λ b. (b.name, slot_of 0 b)) blocks

-- the slots, but for where they start
abbrev pub without_starts : List (ℕ × Slot) → List (ℕ × Slot)
without_starts entries = map (λ e. (e.0, record e.1 { start = 0 })) entries

-- the procedures, each with the place where its body starts, from the first body on
abbrev pub bodies_from : ℕ → List Procedure → List Body
bodies_from start [] = []
bodies_from start (p ∷ rest) =
    record { link = p.link; start = start; length = length p.body } ∷ bodies_from (start + length p.body) rest

-- a body that starts earlier
abbrev pub lowered_body : ℕ → Body → Body
lowered_body by body = record body { start = body.start - by }
