-- Slots that hold where the uses of their names go, in place of their starts. No public clause cites this module.
use Rattle.std.specs.Prelude.{ℕ, if◌then◌else◌, List, map, get_or}
use Rattle.sq_isa.specs.Registers.{is_among}
use Rattle.sq_graph.specs.declared.slot.Slot.{Slot}
use Rattle.sq_graph.specs.Uses.{term_uses}

-- each slot with another start
abbrev pub restarted : (ℕ → Slot → ℕ) → List (ℕ × Slot) → List (ℕ × Slot)
restarted f entries = map (λ e. (e.0, record e.1 { start = f e.0 e.1 })) entries

-- each slot has its own name in place of its start
abbrev pub homed : List (ℕ × Slot) → List (ℕ × Slot)
homed entries = restarted (λ name slot. name) entries

-- the slot of each of these blocks has the name that its term names in place of its start
abbrev pub target_or_start : List ℕ → ℕ → Slot → ℕ
target_or_start blocks name slot = if is_among blocks name then get_or (term_uses slot.term) 0 slot.start else slot.start

abbrev pub aimed_each : List ℕ → List (ℕ × Slot) → List (ℕ × Slot)
aimed_each blocks entries = restarted (target_or_start blocks) entries
