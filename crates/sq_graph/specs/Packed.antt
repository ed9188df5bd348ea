-- Slots whose items don't lie one right behind another. No public clause cites this module.
use Rattle.std.specs.Prelude.{◌≡◌, ℕ, ◌+◌, ◌-◌, ◌<◌, ◌≤◌, ◌==◌, if◌then◌else◌, List, [], ◌∷◌, ◌++◌, take, drop, length, Option, None, Some, Vec, vec_capacity}
use Rattle.std.specs.Global.{Global}
use Rattle.sq_arena.specs.Arena.{Arena}
use Rattle.sq_arena.specs.Entries.{HasDistinctKeys, value_of, with_value}
use Rattle.sq_graph.specs.declared.item.Item.{Item}
use Rattle.sq_graph.specs.declared.slot.Slot.{Slot}
use Rattle.sq_graph.specs.declared.loose.Loose.{Loose}
use Rattle.sq_graph.specs.Graph.{Block}
use Rattle.sq_graph.specs.Cursor.{length_of_slots}

-- the slot of the name is shorter by so many
abbrev pub cut_slot : ℕ → List (ℕ × Slot) → ℕ → List (ℕ × Slot)
cut_slot most [] name = []
cut_slot most (e ∷ rest) name =
    if e.0 == name then (e.0, record e.1 { length = e.1.length - most }) ∷ rest else e ∷ cut_slot most rest name

abbrev pub cut_slots : ℕ → List ℕ → List (ℕ × Slot) → List (ℕ × Slot)
cut_slots most [] entries = entries
cut_slots most (name ∷ names) entries = cut_slots most names (cut_slot most entries name)

-- the items of the slots, in their order
abbrev pub pieces_of : List Item → List (ℕ × Slot) → List Item
pieces_of items [] = []
pieces_of items (e ∷ rest) = take e.1.length (drop e.1.start items) ++ pieces_of items rest

-- each slot starts where the one before ends or behind that, the first one no earlier than `low`, and the last one
-- ends no later than `end`
abbrev pub AreApart : List (ℕ × Slot) → ℕ → ℕ → Type 0
AreApart [] low end = low ≤ end
AreApart (e ∷ rest) low end = (low ≤ e.1.start) × AreApart rest (e.1.start + e.1.length) end

-- the blocks whose items lie at their slots
abbrev pub blocks_of : List (ℕ × Slot) → List Item → List Block
blocks_of [] items = []
blocks_of (e ∷ rest) items =
    record { name = e.0; items = take e.1.length (drop e.1.start items); term = e.1.term } ∷ blocks_of rest items

-- each slot ends no later than `end`
abbrev pub EndBy : List (ℕ × Slot) → ℕ → Type 0
EndBy [] end = Unit {0}
EndBy (e ∷ rest) end = (e.1.start + e.1.length ≤ end) × EndBy rest end

-- an item of the slot lies at the place
abbrev pub HasPlace : Slot → ℕ → Type 0
HasPlace slot place = (slot.start ≤ place) × (place < slot.start + slot.length)

-- no place is one of two slots
abbrev pub AreDisjoint : List (ℕ × Slot) → Type 0
AreDisjoint entries =
    (place name other : ℕ) (slot second : Slot) → value_of entries name ≡ Some slot → value_of entries other ≡ Some second → HasPlace slot place → HasPlace second place → name ≡ other

-- the slots lie apart ahead of `end`, in layout order; or else, where there is a free place, all lie somewhere ahead of
-- it, no two at one place, and there is room for a copy of their items
abbrev pub AreLaid : List (ℕ × Slot) → ℕ → Option ℕ → ℕ → Type 0
AreLaid entries end None room = AreApart entries 0 end
AreLaid entries end (Some free) room = EndBy entries free × ((free ≤ end) × ((length_of_slots entries ≤ room) × AreDisjoint entries))

-- the slots lie among the items, ahead of `end`, and so many items ahead of `end` are in none
pub record HasGaps (entries : List (ℕ × Slot)) (items : List Item) (end gaps : ℕ) (loose : Loose) : Type 0 where
  pub distinct : HasDistinctKeys entries
  pub lie : AreLaid entries end loose.free (vec_capacity loose.scratch)
  pub within : end ≤ length items
  pub counted : gaps + length_of_slots entries ≡ end

-- the blocks are the same with other gaps, and so is what lies behind them
pub record KeepsBlocks (old : Arena Slot) (old_items : Vec Item Global) (old_end old_gaps : ℕ) (new : Arena Slot) (new_items : Vec Item Global) (new_end new_gaps : ℕ) (loose : Loose) : Type 0 where
  pub gaps : HasGaps new.entries new_items.items new_end new_gaps loose
  pub blocks : blocks_of new.entries new_items.items ≡ blocks_of old.entries old_items.items
  pub behind : drop new_end new_items.items ≡ drop old_end old_items.items
  pub fewer : new_gaps ≤ old_gaps
  pub spare : new.spare ≡ old.spare
  pub capacity : vec_capacity new_items ≡ vec_capacity old_items

-- the slot of the name has come to start at the free place, which is behind it now
pub record Carries (old new : List (ℕ × Slot)) (name : ℕ) (was : Option ℕ) (free : ℕ) : Type 0 where
  pub place : ℕ
  pub slot : Slot
  pub was_free : was ≡ Some place
  pub found : value_of old name ≡ Some slot
  pub entries : new ≡ with_value old name (record slot { start = place })
  pub free_is : free ≡ place + slot.length

-- the items of the second lie right behind those of the first
abbrev pub Follows : List (ℕ × Slot) → ℕ → ℕ → Type 0
Follows entries name next =
    (first second : Slot) → value_of entries name ≡ Some first → value_of entries next ≡ Some second → first.start + first.length ≡ second.start
