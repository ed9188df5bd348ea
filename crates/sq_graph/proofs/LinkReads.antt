-- What the arena that `links` hands out tells of the blocks, for callers.
use Rattle.std.proofs.Common.{◌≡◌, ℕ, suc, ◌==◌, List, [], ◌∷◌, length, Some, is_some, refl, sym, ap, ◌∙◌, inl, inr}
use Rattle.std.proofs.lemmas.Bool.{cases_Bool}
use Rattle.sq_arena.specs.Entries.{value_of, before, last_key, previous_key}
use Rattle.sq_graph.specs.declared.slot.Slot.{Slot}
use Rattle.sq_graph.specs.Graph.{Block}
use Rattle.sq_graph.specs.Blocks.{named, block_items}
use Rattle.sq_graph.specs.Slots.{slot_of, slots_of, without_starts}

-- the first slot is the first block's
record Starts (e : ℕ × Slot) (es : List (ℕ × Slot)) (b : Block) (bs : List Block) : Type 0 where
  pub key : e.0 ≡ b.name
  pub counted : e.1.length ≡ length b.items
  pub rest : without_starts es ≡ slots_of bs

starts : (e : ℕ × Slot) (es : List (ℕ × Slot)) (b : Block) (bs : List Block) → without_starts (e ∷ es) ≡ slots_of (b ∷ bs) → Starts e es b bs
starts e es b bs links =
    let first : (e.0, record e.1 { start = 0 }) ≡ (b.name, slot_of 0 b) = cc in
    record { key = ap (λ (p : ℕ × Slot). p.0) first; counted = ap (λ (p : ℕ × Slot). p.1.length) first; rest = cc }

pub length-links : (es : List (ℕ × Slot)) (bs : List Block) → without_starts es ≡ slots_of bs → length es ≡ length bs
length-links [] [] links = refl
length-links [] (b ∷ bs) links = absurd (cc)
length-links (e ∷ es) [] links = absurd (cc)
length-links (e ∷ es) (b ∷ bs) links = ap suc (length-links es bs (starts e es b bs links).rest)

-- a name has a slot exactly where it is a block's
pub value_of-links : (es : List (ℕ × Slot)) (bs : List Block) (name : ℕ) → without_starts es ≡ slots_of bs → is_some (value_of es name) ≡ is_some (value_of (named bs) name)
value_of-links [] [] name links = refl
value_of-links [] (b ∷ bs) name links = absurd (cc)
value_of-links (e ∷ es) [] name links = absurd (cc)
value_of-links (e ∷ es) (b ∷ bs) name links =
    let first = starts e es b bs links in
    let same = ap (λ k. k == name) first.key in
    elim (cases_Bool (b.name == name)) [
      | inl here ↦ rw (same, here) refl
      | inr apart ↦ rw (same, apart) (value_of-links es bs name first.rest)
    ]

-- the length in the slot is the number of the block's items
pub slot_length : (es : List (ℕ × Slot)) (bs : List Block) (name : ℕ) (slot : Slot) → without_starts es ≡ slots_of bs → value_of es name ≡ Some slot → length (block_items (value_of (named bs) name)) ≡ slot.length
slot_length [] bs name slot links found = absurd (cc)
slot_length (e ∷ es) [] name slot links found = absurd (cc)
slot_length (e ∷ es) (b ∷ bs) name slot links found =
    let first = starts e es b bs links in
    let same = ap (λ k. k == name) first.key in
    elim (cases_Bool (b.name == name)) [
      | inl here ↦
          let value : e.1 ≡ slot = cc (rw (same, here) at found) in
          rw here (sym first.counted ∙ ap (λ s. s.length) value)
      | inr apart ↦ rw apart (slot_length es bs name slot first.rest (rw (same, apart) at found))
    ]

-- the key ahead of a block's is the name of the block ahead of it
last-links : (x : ℕ × Slot) (y : ℕ × Block) (es : List (ℕ × Slot)) (bs : List Block) (name : ℕ) → x.0 ≡ y.0 → without_starts es ≡ slots_of bs → last_key (x ∷ before es name) ≡ last_key (y ∷ before (named bs) name)
last-links x y [] [] name is links = ap Some is
last-links x y [] (b ∷ bs) name is links = absurd (cc)
last-links x y (e ∷ es) [] name is links = absurd (cc)
last-links x y (e ∷ es) (b ∷ bs) name is links =
    let first = starts e es b bs links in
    let same = ap (λ k. k == name) first.key in
    elim (cases_Bool (b.name == name)) [
      | inl here ↦ rw (same, here) (ap Some is)
      | inr apart ↦ rw (same, apart) (last-links e (b.name, b) es bs name first.key first.rest)
    ]

pub previous-links : (es : List (ℕ × Slot)) (bs : List Block) (name : ℕ) → without_starts es ≡ slots_of bs → previous_key es name ≡ previous_key (named bs) name
previous-links [] [] name links = refl
previous-links [] (b ∷ bs) name links = absurd (cc)
previous-links (e ∷ es) [] name links = absurd (cc)
previous-links (e ∷ es) (b ∷ bs) name links =
    let first = starts e es b bs links in
    let same = ap (λ k. k == name) first.key in
    elim (cases_Bool (b.name == name)) [
      | inl here ↦ rw (same, here) refl
      | inr apart ↦ rw (same, apart) (last-links e (b.name, b) es bs name first.key first.rest)
    ]
