-- What each pass of `canonical` makes of the slots in the arena. No public clause cites this module.
use Rattle.std.specs.Prelude.{ℕ, Bool, false, ◌+◌, ◌==◌, ◌&&◌, ◌||◌, if◌then◌else◌, List, [], ◌∷◌, map, Option, None, Some}
use Rattle.sq_arena.specs.Entries.{value_of}
use Rattle.sq_isa.specs.Registers.{is_among}
use Rattle.sq_graph.specs.declared.slot.Slot.{Slot}
use Rattle.sq_graph.specs.Leaders.{is_fall}
use Rattle.sq_graph.specs.Cursor.{retargeted_slots}
use Rattle.sq_graph.specs.Aims.{restarted}

-- whether a slot is empty with Fall
abbrev pub is_bare_slot : Slot → Bool
is_bare_slot slot = slot.length == 0 && is_fall slot.term

abbrev pub has_bare : List (ℕ × Slot) → Bool
has_bare [] = false
has_bare (e ∷ rest) = has_bare rest || is_bare_slot e.1

-- each slot without a mark: its start is 0
abbrev pub cleared : List (ℕ × Slot) → List (ℕ × Slot)
cleared entries = restarted (λ name slot. 0) entries

-- where the uses of the first name go: past bare slots to the first other one
abbrev pub aim : List (ℕ × Slot) → ℕ
aim [] = 0
aim (e ∷ rest) = if is_bare_slot e.1 then aim rest else e.0

-- each slot with where the uses of its name go, in place of its start
abbrev pub aimed : List (ℕ × Slot) → List (ℕ × Slot)
aimed [] = []
aimed (e ∷ rest) = (e.0, record e.1 { start = aim (e ∷ rest) }) ∷ aimed rest

-- what a name has in place of its start, and itself where it has no slot
abbrev pub start_or : ℕ → Option Slot → ℕ
start_or name None = name
start_or name (Some slot) = slot.start

abbrev pub start_of : List (ℕ × Slot) → ℕ → ℕ
start_of entries name = start_or name (value_of entries name)

-- the same slots once the uses of names by their terms go there
abbrev pub passed_slots : List (ℕ × Slot) → List (ℕ × Slot)
passed_slots entries = retargeted_slots (start_of (aimed entries)) (aimed entries)

-- the slots that aren't bare, each without a mark
abbrev pub full_slots : List (ℕ × Slot) → List (ℕ × Slot)
full_slots [] = []
full_slots (e ∷ rest) = if is_bare_slot e.1 then full_slots rest else (e.0, record e.1 { start = 0 }) ∷ full_slots rest

-- each of these names gets a mark: its slot starts at 1
abbrev pub marked_slot : List ℕ → ℕ → Slot → Slot
marked_slot names name slot = record slot { start = if is_among names name then 1 else slot.start }

abbrev pub marked : List ℕ → List (ℕ × Slot) → List (ℕ × Slot)
marked names entries = map (λ e. (e.0, marked_slot names e.0 e.1)) entries

-- the first slot once it has taken over the second
abbrev pub both : Slot → Slot → Slot
both first second = record first { length = first.length + second.length; term = second.term }

-- the slot takes over the next one, where it falls into it and that has no mark
abbrev pub joined_slot_onto : ℕ × Slot → List (ℕ × Slot) → List (ℕ × Slot)
joined_slot_onto e [] = e ∷ []
joined_slot_onto e (next ∷ rest) =
    if is_fall e.1.term && next.1.start == 0 then (e.0, both e.1 next.1) ∷ rest
    else e ∷ next ∷ rest

abbrev pub joined_slots : List (ℕ × Slot) → List (ℕ × Slot)
joined_slots [] = []
joined_slots (e ∷ rest) = joined_slot_onto e (joined_slots rest)
