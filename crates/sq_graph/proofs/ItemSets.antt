-- What the fields show after one item of a block is another, whether items lie in order or not.
use Rattle.std.proofs.Common.{◌≡◌, ℕ, ◌+◌, ◌-◌, ◌≤◌, ◌<◌, ◌==◌, List, [], ◌∷◌, ◌++◌, length, take, drop, set, vec_capacity, Vec, Global, Some, refl, sym, ap, ◌∙◌, inl, inr, arith, length-drop}
use Rattle.std.proofs.lemmas.Bool.{cases_Bool, cases_lt, eqb-true, eq-eqb}
use Rattle.std.proofs.lemmas.List.{length-take-le, length-set, take-append-drop, take-set, drop-set, drop-set-lt, drop-set-add, take-set-le}
use Rattle.std.proofs.Math.Seq.{take-set-lt}
use Rattle.sq_arena.specs.Entries.{HasDistinctKeys, value_of}
use Rattle.sq_arena.proofs.EntriesLaws.{distinct_back}
use Rattle.sq_graph.specs.declared.item.Item.{Item}
use Rattle.sq_graph.specs.declared.slot.Slot.{Slot}
use Rattle.sq_graph.specs.declared.graph.Graph.TheInside.{Inside}
use Rattle.sq_graph.specs.Blocks.{block_items, items_of}
use Rattle.sq_graph.specs.Rules.{IsGraph}
use Rattle.sq_graph.specs.Operations.{with_blocks, replaced_items, replaced}
use Rattle.sq_graph.specs.Packed.{HasPlace, blocks_of}
use Rattle.sq_graph.specs.Layout.{graph_of, IsSound}
use Rattle.sq_graph.proofs.SlotReads.{slot_fits, reads}
use Rattle.sq_graph.proofs.Disjoint.{found_back, laid_disjoint}
use Rattle.sq_graph.proofs.Held.{Shows, laid, laid_shows, limits_of}

-- ONE PIECE

-- where the place is none of the slot, its items stay
piece_aside : (xs : List Item) (place : ℕ) (item : Item) (slot : Slot) → (HasPlace slot place → ⊥) → take slot.length (drop slot.start (set xs place item)) ≡ take slot.length (drop slot.start xs)
piece_aside xs place item slot aside =
    elim (cases_lt place slot.start) [
      | inl less ↦ ap (take slot.length) (drop-set-lt slot.start xs place item less)
      | inr more ↦
          let at = place - slot.start in
          let split : place ≡ slot.start + (place - slot.start) = omega (arith, more) in
          elim (cases_lt place (slot.start + slot.length)) [
            | inl within ↦ absurd (aside (more, within))
            | inr later ↦
                ap (λ n. take slot.length (drop slot.start (set xs n item))) split
                ∙ ap (take slot.length) (drop-set-add slot.start xs at item)
                ∙ take-set-le slot.length (drop slot.start xs) at item (omega (arith, later))
          ]
    ]

pub set_replaces : (xs : List Item) (at : ℕ) (item : Item) → at < length xs → set xs at item ≡ replaced_items xs at 1 (item ∷ [])
set_replaces xs at item there =
    sym (take-append-drop at (set xs at item))
    ∙ ap (λ ys. ys ++ drop at (set xs at item)) (take-set xs at item)
    ∙ ap (λ ys. take at xs ++ ys) (drop-set xs at item there)

piece_set : (xs : List Item) (slot : Slot) (at : ℕ) (item : Item) → at < slot.length → slot.start + slot.length ≤ length xs
    → take slot.length (drop slot.start (set xs (slot.start + at) item)) ≡ replaced_items (take slot.length (drop slot.start xs)) at 1 (item ∷ [])
piece_set xs slot at item there within =
    ap (take slot.length) (drop-set-add slot.start xs at item)
    ∙ take-set-lt slot.length (drop slot.start xs) at item there
    ∙ set_replaces (take slot.length (drop slot.start xs)) at item (omega (arith, there, length-take-le slot.length (drop slot.start xs) (omega (arith, within, length-drop slot.start xs))))

-- THE BLOCKS

-- only the slot of the name may have the place
abbrev IsAlone : List (ℕ × Slot) → ℕ → ℕ → Type 0
IsAlone es place name = (other : ℕ) (slot : Slot) → value_of es other ≡ Some slot → HasPlace slot place → other ≡ name

alone_back : (e : ℕ × Slot) (es : List (ℕ × Slot)) (place name : ℕ) → HasDistinctKeys (e ∷ es) → IsAlone (e ∷ es) place name → IsAlone es place name
alone_back e es place name distinct alone other slot found has =
    alone other slot (found_back (e ∷ []) es other slot distinct found).0 has

first_found : (e : ℕ × Slot) (es : List (ℕ × Slot)) → value_of (e ∷ es) e.0 ≡ Some e.1
first_found e es = rw (eq-eqb e.0 e.0 refl)

-- the blocks of none but it stay
blocks_aside : (xs : List Item) (place : ℕ) (item : Item) (es : List (ℕ × Slot)) → HasDistinctKeys es → ((other : ℕ) (slot : Slot) → value_of es other ≡ Some slot → HasPlace slot place → ⊥) → blocks_of es (set xs place item) ≡ blocks_of es xs
blocks_aside xs place item [] distinct aside = refl
blocks_aside xs place item (e ∷ es) distinct aside =
    let piece = piece_aside xs place item e.1 (aside e.0 e.1 (first_found e es)) in
    let rest = blocks_aside xs place item es (distinct_back (e ∷ []) es distinct) (λ other slot found has. aside other slot (found_back (e ∷ []) es other slot distinct found).0 has) in
    λ i. record { name = e.0; items = piece i; term = e.1.term } ∷ rest i

blocks_set : (xs : List Item) (name : ℕ) (slot : Slot) (at : ℕ) (item : Item) → at < slot.length → slot.start + slot.length ≤ length xs → (es : List (ℕ × Slot)) → HasDistinctKeys es → IsAlone es (slot.start + at) name → value_of es name ≡ Some slot
    → blocks_of es (set xs (slot.start + at) item) ≡ with_blocks (λ b. record b { items = replaced_items b.items at 1 (item ∷ []) } ∷ []) (blocks_of es xs) name
blocks_set xs name slot at item there within [] distinct alone found = absurd (cc)
blocks_set xs name slot at item there within (e ∷ es) distinct alone found =
    elim (cases_Bool (e.0 == name)) [
      | inl here ↦
          let value : slot ≡ e.1 = cc (rw here at found) in
          let key = eqb-true e.0 name here in
          let piece : take e.1.length (drop e.1.start (set xs (slot.start + at) item)) ≡ replaced_items (take e.1.length (drop e.1.start xs)) at 1 (item ∷ []) =
          rw (← value) (piece_set xs slot at item there within) in
          let rest = blocks_aside xs (slot.start + at) item es (distinct_back (e ∷ []) es distinct) (λ other second there' has.
          let back = found_back (e ∷ []) es other second distinct there' in
          let same = alone other second back.0 has in
          absurd (cc (sym (first_found e []) ∙ ap (λ k. value_of (e ∷ []) k) (key ∙ sym same) ∙ back.1))) in
          rw here (λ i. record { name = e.0; items = piece i; term = e.1.term } ∷ rest i)
      | inr apart ↦
          let piece = piece_aside xs (slot.start + at) item e.1 (λ has. absurd (cc (sym (eq-eqb e.0 name (alone e.0 e.1 (first_found e es) has)) ∙ apart))) in
          let rest = blocks_set xs name slot at item there within es (distinct_back (e ∷ []) es distinct) (alone_back e es (slot.start + at) name distinct alone) (rw apart at found) in
          rw apart (λ i. record { name = e.0; items = piece i; term = e.1.term } ∷ rest i)
    ]

-- THE FIELDS

-- the item is one of the slot
pub has_item : (inside : Inside) (name : ℕ) (slot : Slot) (at : ℕ) → IsSound inside → value_of inside.slots.entries name ≡ Some slot → at < length (items_of (graph_of inside) name) → at < slot.length
has_item inside name slot at sound found there =
    let read = reads inside name slot sound found in
    omega (arith, there, read.length_is, ap (λ o. length (block_items o)) read.is)

pub set_item_shows : (old : Inside) (name : ℕ) (slot : Slot) (at : ℕ) (item : Item) (items : Vec Item Global) → IsSound old → value_of old.slots.entries name ≡ Some slot → at < slot.length
    → items.items ≡ set old.items.items (slot.start + at) item → vec_capacity items ≡ vec_capacity old.items → IsGraph (replaced (graph_of old) name at 1 (item ∷ []))
    → Shows (record old { items = items }) (replaced (graph_of old) name at 1 (item ∷ []))
set_item_shows old name slot at item items sound found there is capacity rules =
    let es = old.slots.entries in
    let xs = old.items.items in
    let lays = laid old sound in
    let limits = limits_of old sound in
    let fits = slot_fits old name slot sound found in
    let disjoint = laid_disjoint es old.blocks_end old.loose.free (vec_capacity old.loose.scratch) sound.gaps.lie in
    let long : length items.items ≡ length old.items.items = ap (λ (ys : List Item). length ys) is ∙ length-set xs (slot.start + at) item in
    laid_shows (record old { items = items }) (replaced (graph_of old) name at 1 (item ∷ []))
    (record {
      blocks = ap (λ ys. blocks_of es ys) is
          ∙ blocks_set xs name slot at item there (omega (arith, fits, sound.gaps.within)) es sound.gaps.distinct
          (λ other second found' has. disjoint (slot.start + at) other name second slot found' found has (omega arith, omega (arith, there))) found;
      lie = lays.lie;
      within = omega (arith, lays.within, long);
      counted = lays.counted;
      behind = ap (drop old.blocks_end) is ∙ drop-set-lt old.blocks_end xs (slot.start + at) item (omega (arith, there, fits)) ∙ lays.behind;
      entry = refl;
      code_words = refl;
      bodies = lays.bodies;
    })
    rules
    (record {
      items = omega (arith, long, sound.room.items);
      item_room = omega (arith, capacity, sound.room.item_room);
      bodies = sound.room.bodies;
      body_room = sound.room.body_room;
    })
    (record { blocks = limits.blocks; item_room = limits.item_room; body_room = limits.body_room })
