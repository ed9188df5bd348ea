-- What the fields show after a call that changes the items of a block.
use Rattle.std.proofs.Common.{◌≡◌, ℕ, suc, ◌+◌, ◌-◌, ◌≤◌, List, [], ◌∷◌, ◌++◌, length, take, drop, vec_capacity, Vec, Global, Some, refl, sym, ap, ◌∙◌, arith, length-append, length-drop, append_assoc}
use Rattle.std.proofs.lemmas.List.{append-nil, length-take-le, take_at, drop_at, drop-drop, drop-append-le, take-append-drop}
use Rattle.sq_arena.specs.Arena.{Arena as Listed}
use Rattle.sq_arena.specs.Entries.{value_of, before, behind}
use Rattle.sq_arena.proofs.EntriesLemmas.{split_at as split_at_key}
use Rattle.sq_graph.specs.declared.item.Item.{Item}
use Rattle.sq_graph.specs.declared.slot.Slot.{Slot}
use Rattle.sq_graph.specs.declared.graph.Graph.TheInside.{Inside}
use Rattle.sq_graph.specs.Graph.{Block}
use Rattle.sq_graph.specs.Blocks.{HasBlock, block_items, items_of, items_of_blocks, items_of_bodies}
use Rattle.sq_graph.specs.Rules.{IsGraph}
use Rattle.sq_graph.specs.Operations.{with_blocks, changed, replaced_items, replaced}
use Rattle.sq_graph.specs.Slots.{slot_of, slots_from}
use Rattle.sq_graph.specs.Cursor.{length_of_slots, renumbered}
use Rattle.sq_graph.specs.Layout.{graph_of}
use Rattle.sq_graph.proofs.Located.{IsAt, located}
use Rattle.sq_graph.proofs.SlotReads.{block_at, items_around}
use Rattle.sq_graph.proofs.Sizes.{HasSizes, sizes}
use Rattle.sq_graph.proofs.Packing.{length-replaced_items}
use Rattle.sq_graph.proofs.Held.{Shows, shows}
use Rattle.sq_graph.proofs.Tight.{IsTight, limited}
use Rattle.sq_graph.proofs.Changes.{around, start_at, slots_from-changed, items_of_blocks-changed}

pub renumbered-slots : (n k : ℕ) (bs : List Block) → renumbered n (slots_from k bs) ≡ slots_from n bs
renumbered-slots n k [] = refl
renumbered-slots n k (b ∷ bs) = ap (λ es. (b.name, slot_of n b) ∷ es) (renumbered-slots (n + length b.items) (k + length b.items) bs)

pub length_of_slots-slots : (k : ℕ) (bs : List Block) → length_of_slots (slots_from k bs) ≡ length (items_of_blocks bs)
length_of_slots-slots k [] = refl
length_of_slots-slots k (b ∷ bs) = omega (arith, length_of_slots-slots (k + length b.items) bs, length-append b.items (items_of_blocks bs))

some_same : {T : Type 0} (a b : T) → Some a ≡ Some b → a ≡ b
some_same a b same = cc

-- the slot of a block that has this one
pub slot_is : (inside : Inside) (name : ℕ) (slot : Slot) (at : IsAt (graph_of inside).blocks name) → IsTight inside → value_of inside.slots.entries name ≡ Some slot → slot ≡ slot_of (start_at (graph_of inside).blocks name at) at.block
slot_is inside name slot at tight found =
    some_same slot (slot_of (start_at (graph_of inside).blocks name at) at.block)
    (sym found ∙ (around inside.slots.entries (graph_of inside).blocks name at tight.holds.slots).slot)

-- where a block and its items lie
pub record Placed (inside : Inside) (name : ℕ) (slot : Slot) : Type 0 where
  pub at : IsAt (graph_of inside).blocks name
  pub start_is : slot.start ≡ length (items_of_blocks at.front)
  pub length_is : slot.length ≡ length at.block.items
  pub items_is : items_of (graph_of inside) name ≡ at.block.items
  pub counted : length (items_of (graph_of inside) name) ≡ slot.length
  pub whole : inside.items.items ≡ items_of_blocks at.front ++ (at.block.items ++ (items_of_blocks at.back ++ items_of_bodies (graph_of inside).procedures))
  pub size : length inside.items.items ≡ slot.start + slot.length + length (items_of_blocks at.back) + length (items_of_bodies (graph_of inside).procedures)
  pub blocks_end : inside.blocks_end ≡ slot.start + slot.length + length (items_of_blocks at.back)
  pub front_is : before inside.slots.entries name ≡ slots_from 0 at.front
  pub back_is : behind inside.slots.entries name ≡ slots_from (slot.start + slot.length) at.back
  pub behind_length : length_of_slots (behind inside.slots.entries name) ≡ length (items_of_blocks at.back)
  pub numbered : renumbered (slot.start + slot.length) (behind inside.slots.entries name) ≡ behind inside.slots.entries name
  pub sizes : HasSizes inside

pub placed : (inside : Inside) (name : ℕ) (slot : Slot) → IsTight inside → HasBlock (graph_of inside) name → value_of inside.slots.entries name ≡ Some slot → Placed inside name slot
placed inside name slot tight has found =
    let bs = (graph_of inside).blocks in
    let ps = (graph_of inside).procedures in
    let at = located bs name has in
    let same = slot_is inside name slot at tight found in
    let start : slot.start ≡ length (items_of_blocks at.front) = ap (λ s. s.start) same in
    let size : slot.length ≡ length at.block.items = ap (λ s. s.length) same in
    let there = around inside.slots.entries bs name at tight.holds.slots in
    let whole = tight.holds.items ∙ items_around bs name at (items_of_bodies ps) in
    let blocks = items_around bs name at [] in
    let back : behind inside.slots.entries name ≡ slots_from (slot.start + slot.length) at.back =
    there.back ∙ ap (λ s. slots_from (s.start + s.length) at.back) (sym same) in
    let items = ap (λ o. block_items o) (block_at bs name at) in
    record {
      at = at;
      start_is = start;
      length_is = size;
      items_is = items;
      counted = ap (λ is. length is) items ∙ sym size;
      whole = whole;
      size = omega (arith, start, size, ap (λ is. length is) whole, length-append (items_of_blocks at.front) (at.block.items ++ (items_of_blocks at.back ++ items_of_bodies ps)), length-append at.block.items (items_of_blocks at.back ++ items_of_bodies ps), length-append (items_of_blocks at.back) (items_of_bodies ps));
      blocks_end = omega (arith, start, size, tight.holds.blocks_end, ap (λ is. length is) blocks, length-append (items_of_blocks bs) [], length-append (items_of_blocks at.front) (at.block.items ++ (items_of_blocks at.back ++ [])), length-append at.block.items (items_of_blocks at.back ++ []), length-append (items_of_blocks at.back) []);
      front_is = there.front;
      back_is = back;
      behind_length = ap length_of_slots back ∙ length_of_slots-slots (slot.start + slot.length) at.back;
      numbered = ap (renumbered (slot.start + slot.length)) back ∙ renumbered-slots (slot.start + slot.length) (slot.start + slot.length) at.back ∙ sym back;
      sizes = sizes inside tight.sound;
    }

-- a replacement within the middle of three parts
pub replaced_middle : (front xs rest by : List Item) (start at count : ℕ) → start ≡ length front → at + count ≤ length xs → replaced_items (front ++ (xs ++ rest)) (start + at) count by ≡ front ++ (replaced_items xs at count by ++ rest)
replaced_middle front xs rest by start at count is fits =
    let m = length front in
    let whole : front ++ (xs ++ rest) ≡ (front ++ take at xs) ++ (drop at xs ++ rest) =
    ap (λ ys. front ++ (ys ++ rest)) (sym (take-append-drop at xs))
    ∙ ap (λ ys. front ++ ys) (append_assoc (take at xs) (drop at xs) rest)
    ∙ sym (append_assoc front (take at xs) (drop at xs ++ rest)) in
    let size : length (front ++ take at xs) ≡ start + at = omega (arith, is, length-append front (take at xs), length-take-le at xs (omega (arith, fits))) in
    let upto : take (start + at) (front ++ (xs ++ rest)) ≡ front ++ take at xs =
    ap (take (start + at)) whole ∙ take_at (front ++ take at xs) (drop at xs ++ rest) (start + at) size in
    let from : drop (start + at + count) (front ++ (xs ++ rest)) ≡ drop (at + count) xs ++ rest =
    sym (drop-drop count (start + at) (front ++ (xs ++ rest)))
    ∙ ap (drop count) (ap (drop (start + at)) whole ∙ drop_at (front ++ take at xs) (drop at xs ++ rest) (start + at) size)
    ∙ drop-append-le count (drop at xs) rest (omega (arith, fits, length-drop at xs))
    ∙ ap (λ ys. ys ++ rest) (drop-drop count at xs) in
    ap (λ ys. ys ++ (by ++ drop (start + at + count) (front ++ (xs ++ rest)))) upto
    ∙ ap (λ ys. (front ++ take at xs) ++ (by ++ ys)) from
    ∙ append_assoc front (take at xs) (by ++ (drop (at + count) xs ++ rest))
    ∙ ap (λ ys. front ++ (take at xs ++ ys)) (sym (append_assoc by (drop (at + count) xs) rest))
    ∙ ap (λ ys. front ++ ys) (sym (append_assoc (take at xs) (by ++ drop (at + count) xs) rest))

-- fields in which a block has other items
pub record Resizes (old new : Inside) (name : ℕ) (slot : Slot) (items : List Item) (placed : Placed old name slot) : Type 0 where
  pub slots : new.slots.entries ≡ before old.slots.entries name ++ (name, record slot { length = length items }) ∷ renumbered (slot.start + length items) (behind old.slots.entries name)
  pub spare : new.slots.spare ≡ old.slots.spare
  pub items_are : new.items.items ≡ items_of_blocks placed.at.front ++ (items ++ (items_of_blocks placed.at.back ++ items_of_bodies (graph_of old).procedures))
  pub blocks_end : new.blocks_end + slot.length ≡ old.blocks_end + length items
  pub capacity : vec_capacity old.items ≤ vec_capacity new.items
  pub room : length new.items.items ≤ old.item_room
  pub gaps : new.gaps ≡ old.gaps
  pub loose : new.loose ≡ old.loose
  pub entry : new.entry ≡ old.entry
  pub code_words : new.code_words ≡ old.code_words
  pub bodies : new.bodies ≡ old.bodies
  pub item_room : new.item_room ≡ old.item_room
  pub body_room : new.body_room ≡ old.body_room

pub resized_shows : (old new : Inside) (name : ℕ) (slot : Slot) (f : Block → List Block) (items : List Item) (p : Placed old name slot) → IsTight old → value_of old.slots.entries name ≡ Some slot → f p.at.block ≡ record p.at.block { items = items } ∷ [] → Resizes old new name slot items p → IsGraph (changed f (graph_of old) name) → Shows new (changed f (graph_of old) name)
resized_shows old new name slot f items p tight found is change rules =
    let g = graph_of old in
    let bs = g.blocks in
    let at = p.at in
    let m = start_at bs name at in
    let b' : Block = record at.block { items = items } in
    let limits = limited old tight in
    let e : items_of_blocks (f at.block) ≡ items = ap items_of_blocks is ∙ append-nil items in
    let total : items_of_blocks (with_blocks f bs name) ≡ items_of_blocks at.front ++ (items ++ items_of_blocks at.back) =
    items_of_blocks-changed f bs name at ∙ ap (λ xs. items_of_blocks at.front ++ (xs ++ items_of_blocks at.back)) e in
    let entries : new.slots.entries ≡ slots_from 0 (with_blocks f bs name) =
    change.slots
    ∙ ap (λ es. es ++ (name, record slot { length = length items }) ∷ renumbered (slot.start + length items) (behind old.slots.entries name)) p.front_is
    ∙ ap (λ es. slots_from 0 at.front ++ (name, record slot { length = length items }) ∷ es) (ap (renumbered (slot.start + length items)) p.back_is ∙ renumbered-slots (slot.start + length items) (slot.start + slot.length) at.back)
    ∙ ap (λ s. slots_from 0 at.front ++ (name, record s { length = length items }) ∷ slots_from (s.start + length items) at.back) (slot_is old name slot at tight found)
    ∙ ap (λ k. slots_from 0 at.front ++ (k, slot_of m b') ∷ slots_from (m + length items) at.back) (sym at.has_name)
    ∙ sym (slots_from-changed f bs name at
    ∙ ap (λ cs. slots_from 0 at.front ++ (slots_from m cs ++ slots_from (m + length (items_of_blocks (f at.block))) at.back)) is
    ∙ ap (λ xs. slots_from 0 at.front ++ (slots_from m (b' ∷ []) ++ slots_from (m + length xs) at.back)) e) in
    shows new (changed f g name)
    (record {
      slots = entries;
      items = change.items_are
          ∙ ap (λ xs. items_of_blocks at.front ++ xs) (sym (append_assoc items (items_of_blocks at.back) (items_of_bodies g.procedures)))
          ∙ sym (append_assoc (items_of_blocks at.front) (items ++ items_of_blocks at.back) (items_of_bodies g.procedures))
          ∙ ap (λ xs. xs ++ items_of_bodies g.procedures) (sym total);
      blocks_end = omega (arith, change.blocks_end, p.blocks_end, p.start_is, ap (λ xs. length xs) total, length-append (items_of_blocks at.front) (items ++ items_of_blocks at.back), length-append items (items_of_blocks at.back));
      gaps = change.gaps ∙ tight.holds.gaps;
      order = ap (λ l. l.free) change.loose ∙ tight.holds.order;
      entry = change.entry ∙ tight.holds.entry;
      code_words = ap (λ ws. ws.items) change.code_words ∙ tight.holds.code_words;
      bodies = ap (λ ws. ws.items) change.bodies ∙ tight.holds.bodies;
    })
    rules
    (record {
      items = omega (arith, change.room, change.item_room);
      item_room = omega (arith, change.capacity, change.item_room, tight.room.item_room);
      bodies = omega (arith, ap (λ bs. length bs.items) change.bodies, change.body_room, tight.room.bodies);
      body_room = omega (arith, ap (λ bs. vec_capacity bs) change.bodies, change.body_room, tight.room.body_room);
    })
    (record {
      blocks = omega (arith, limits.blocks, change.spare, ap (λ es. length es) change.slots, ap (λ es. length es) (split_at_key old.slots.entries name slot found), length-append (before old.slots.entries name) ((name, slot) ∷ behind old.slots.entries name), length-append (before old.slots.entries name) ((name, record slot { length = length items }) ∷ renumbered (slot.start + length items) (behind old.slots.entries name)), length-renumbered (slot.start + length items) (behind old.slots.entries name));
      item_room = omega (arith, limits.item_room, change.item_room);
      body_room = omega (arith, limits.body_room, change.body_room);
    })
  where
    length-renumbered : (n : ℕ) (es : List (ℕ × Slot)) → length (renumbered n es) ≡ length es
    length-renumbered n [] = refl
    length-renumbered n (e ∷ es) = ap suc (length-renumbered (n + e.1.length) es)

-- some items of a block are replaced
pub replace_shows : (old : Inside) (name : ℕ) (slot : Slot) (at count added : ℕ) (by : List Item) (slots : Listed Slot) (items : Vec Item Global) (n : ℕ)
    → IsTight old → HasBlock (graph_of old) name → value_of old.slots.entries name ≡ Some slot
    → at + count ≤ length (items_of (graph_of old) name) → added ≡ length by → length by ≤ count + (old.item_room + old.gaps - length old.items.items)
    → slots.entries ≡ before old.slots.entries name ++ (name, record slot { length = slot.length - count + added }) ∷ renumbered (slot.start + (slot.length - count + added)) (behind old.slots.entries name)
    → slots.spare ≡ old.slots.spare
    → items.items ≡ replaced_items old.items.items (slot.start + at) count by
    → vec_capacity old.items ≤ vec_capacity items
    → n ≡ old.blocks_end - count + added
    → IsGraph (replaced (graph_of old) name at count by)
    → Shows (record old { slots = slots; items = items; blocks_end = n }) (replaced (graph_of old) name at count by)
replace_shows old name slot at count added by slots items n tight has found fits counted room entries spare is capacity blocks rules =
    let p = placed old name slot tight has found in
    let xs = p.at.block.items in
    let ys = replaced_items p.at.block.items at count by in
    let there : at + count ≤ length p.at.block.items = omega (arith, fits, p.counted, p.length_is) in
    let size = length-replaced_items p.at.block.items by at count there in
    let long : slot.length - count + added ≡ length (replaced_items p.at.block.items at count by) = omega (arith, size, there, p.length_is, counted) in
    let middle = replaced_middle (items_of_blocks p.at.front) p.at.block.items (items_of_blocks p.at.back ++ items_of_bodies (graph_of old).procedures) by slot.start at count p.start_is there in
    let all : items.items ≡ items_of_blocks p.at.front ++ (replaced_items p.at.block.items at count by ++ (items_of_blocks p.at.back ++ items_of_bodies (graph_of old).procedures)) =
    is ∙ ap (λ zs. replaced_items zs (slot.start + at) count by) p.whole ∙ middle in
    resized_shows old (record old { slots = slots; items = items; blocks_end = n }) name slot (λ b. record b { items = replaced_items b.items at count by } ∷ []) (replaced_items p.at.block.items at count by) p tight found refl
    (record {
      slots = entries ∙ ap (λ k. before old.slots.entries name ++ (name, record slot { length = k }) ∷ renumbered (slot.start + k) (behind old.slots.entries name)) long;
      spare = spare;
      items_are = all;
      blocks_end = omega (arith, blocks, p.blocks_end, there, p.length_is, size, counted);
      capacity = capacity;
      room = omega (arith, ap (λ zs. length zs) is, length-replaced_items old.items.items by (slot.start + at) count (omega (arith, p.size, there, p.length_is)), room, p.sizes.items);
      gaps = refl;
      loose = refl;
      entry = refl;
      code_words = refl;
      bodies = refl;
      item_room = refl;
      body_room = refl;
    })
    rules

-- what is spare afterwards
pub replace_spare : (old : Inside) (name : ℕ) (slot : Slot) (at count : ℕ) (by : List Item) (items : List Item)
    → IsTight old → HasBlock (graph_of old) name → value_of old.slots.entries name ≡ Some slot
    → at + count ≤ length (items_of (graph_of old) name) → length by ≤ count + (old.item_room + old.gaps - length old.items.items)
    → items ≡ replaced_items old.items.items (slot.start + at) count by
    → old.item_room + old.gaps - length items ≡ old.item_room + old.gaps - length old.items.items + count - length by
replace_spare old name slot at count by items tight has found fits room is =
    let p = placed old name slot tight has found in
    let there : slot.start + at + count ≤ length old.items.items = omega (arith, fits, p.counted, p.size) in
    omega (arith, ap (λ zs. length zs) is, length-replaced_items old.items.items by (slot.start + at) count there, room, p.sizes.items, there, tight.holds.gaps)
