-- What the fields show after a call that changes a block and keeps all other items where they lie.
use Rattle.std.proofs.Common.{◌≡◌, ℕ, ◌+◌, ◌-◌, ◌≤◌, ◌==◌, List, [], ◌∷◌, ◌++◌, length, take, drop, vec_capacity, Vec, Global, Option, None, Some, refl, sym, ap, ◌∙◌, subst, inl, inr, arith, length-append, length-drop, append_assoc}
use Rattle.std.proofs.lemmas.Bool.{cases_Bool, eq-eqb}
use Rattle.std.proofs.lemmas.List.{append-nil, length-take-le, take-append-drop, drop-append-le, take-take, drop-take, drop-drop}
use Rattle.sq_arena.specs.Arena.{Arena as Listed}
use Rattle.sq_arena.specs.Entries.{value_of, before, behind, without, with_value, insert_after}
use Rattle.sq_arena.proofs.EntriesLemmas.{through-before, split_at as split_at_key}
use Rattle.sq_graph.specs.declared.item.Item.{Item}
use Rattle.sq_graph.specs.declared.item.Term.{Term}
use Rattle.sq_graph.specs.declared.item.Term.TheVariants.{Fall}
use Rattle.sq_graph.specs.declared.slot.Slot.{Slot}
use Rattle.sq_graph.specs.declared.graph.Graph.TheInside.{Inside}
use Rattle.sq_graph.specs.Graph.{Block}
use Rattle.sq_graph.specs.Blocks.{block_items, items_of, items_of_blocks}
use Rattle.sq_graph.specs.Cursor.{length_of_slots}
use Rattle.sq_graph.specs.Packed.{EndBy, AreDisjoint, AreLaid, blocks_of}
use Rattle.sq_graph.specs.Rules.{IsGraph}
use Rattle.sq_graph.specs.Operations.{with_blocks, changed, with_term, inserted_after, halves, split_at, without_block, replaced_items, replaced}
use Rattle.sq_graph.specs.Layout.{graph_of, IsSound}
use Rattle.sq_graph.proofs.CursorLaws.{value_of-before, with_value-split}
use Rattle.sq_graph.proofs.Packing.{later_same, ahead_written, length-replaced_items, upto_written, behind_written}
use Rattle.sq_graph.proofs.SlotPasses.{length_of_slots-append}
use Rattle.sq_graph.proofs.SlotReads.{reads, slot_fits}
use Rattle.sq_graph.proofs.Laid.{Stands, Lies, lies_changed, lies_blocks, lies_apart, lies_within}
use Rattle.sq_graph.proofs.Strewn.{ends_raise, ends_append, ends_before, ends_behind, ends_found, apart_ends, strewn_changed}
use Rattle.sq_graph.proofs.Disjoint.{disjoint_changed}
use Rattle.sq_graph.proofs.Held.{Shows, laid, laid_shows, limits_of, in_order, in_no_order, ordered, Lie}

-- fields in which the slot of a block has made way for others, and other items lie where its items were, or, where items
-- lie in no order, all as before
pub record Rewrites (old new : Inside) (name : ℕ) (slot : Slot) (mid : List (ℕ × Slot)) : Type 0 where
  pub slots : new.slots.entries ≡ before old.slots.entries name ++ (mid ++ behind old.slots.entries name)
  pub spare : length mid + new.slots.spare ≡ 1 + old.slots.spare
  pub ahead : take slot.start new.items.items ≡ take slot.start old.items.items
  pub later : drop (slot.start + slot.length) new.items.items ≡ drop (slot.start + slot.length) old.items.items
  pub long : length new.items.items ≡ length old.items.items
  pub capacity : vec_capacity new.items ≡ vec_capacity old.items
  pub gaps : new.gaps + length_of_slots mid ≡ old.gaps + slot.length
  pub blocks_end : new.blocks_end ≡ old.blocks_end
  pub entry : new.entry ≡ old.entry
  pub code_words : new.code_words ≡ old.code_words
  pub bodies : new.bodies ≡ old.bodies
  pub item_room : new.item_room ≡ old.item_room
  pub body_room : new.body_room ≡ old.body_room
  pub loose : new.loose ≡ old.loose
  pub strewn : (free : ℕ) → old.loose.free ≡ Some free → new.items.items ≡ old.items.items

relaid : (old new : Inside) (name : ℕ) (slot : Slot) (mid : List (ℕ × Slot)) (f : Block → List Block) (o : Option ℕ) → old.loose.free ≡ o → IsSound old → value_of old.slots.entries name ≡ Some slot → Rewrites old new name slot mid
    → ((b : Block) → Stands old.items.items slot.start (name, slot) b → Lies new.items.items slot.start mid (f b) (slot.start + slot.length))
    → length_of_slots old.slots.entries ≡ length_of_slots (before old.slots.entries name) + (slot.length + length_of_slots (behind old.slots.entries name))
    → length_of_slots new.slots.entries ≡ length_of_slots (before old.slots.entries name) + (length_of_slots mid + length_of_slots (behind old.slots.entries name))
    → Lie new (with_blocks f (graph_of old).blocks name)
relaid old new name slot mid f None order sound found change there was is =
    let lies = lies_changed old.items.items new.items.items f name slot mid old.blocks_end change.ahead change.later there 0 old.slots.entries (graph_of old).blocks (in_order old sound order) found in
    let now : Lies new.items.items 0 new.slots.entries (with_blocks f (graph_of old).blocks name) new.blocks_end = rw (change.slots, change.blocks_end) lies in
    record {
      blocks = lies_blocks new.items.items 0 new.slots.entries (with_blocks f (graph_of old).blocks name) new.blocks_end now;
      lie = ordered new (ap (λ l. l.free) change.loose ∙ order) (lies_apart new.items.items 0 new.slots.entries (with_blocks f (graph_of old).blocks name) new.blocks_end now);
    }
relaid old new name slot mid f (Some free) loose sound found change there was is =
    let xs = old.items.items in
    let same : new.items.items ≡ old.items.items = change.strewn free loose in
    let lie = in_no_order old free sound loose in
    let fits = ends_found old.slots.entries free name slot lie.0 found in
    let read = reads old name slot sound found in
    let stands : Stands old.items.items slot.start (name, slot) read.block = record {
      name = read.name_is;
      term = read.term_is;
      counted = read.length_is;
      above = omega arith;
      items = read.slice;
    } in
    let lies : Lies old.items.items slot.start mid (f read.block) (slot.start + slot.length) = subst (λ (ys : List Item). Lies ys slot.start mid (f read.block) (slot.start + slot.length)) same (there read.block stands) in
    let blocks = lies_blocks old.items.items slot.start mid (f read.block) (slot.start + slot.length) lies in
    let apart = lies_apart old.items.items slot.start mid (f read.block) (slot.start + slot.length) lies in
    let middle : EndBy mid free = ends_raise mid (slot.start + slot.length) free fits (apart_ends mid slot.start (slot.start + slot.length) apart) in
    let disjoint : AreDisjoint new.slots.entries = rw change.slots (disjoint_changed old.slots.entries name slot mid sound.gaps.distinct found apart lie.1.1.1) in
    let ends : EndBy new.slots.entries free =
    rw change.slots (ends_append (before old.slots.entries name) (mid ++ behind old.slots.entries name) free (ends_before old.slots.entries name free lie.0) (ends_append mid (behind old.slots.entries name) free middle (ends_behind old.slots.entries name free lie.0))) in
    let less = lies_within old.items.items slot.start mid (f read.block) (slot.start + slot.length) lies in
    let now : AreLaid new.slots.entries new.blocks_end (Some free) (vec_capacity new.loose.scratch) = (
      ends,
      (
        omega (arith, lie.1.0, change.blocks_end),
        (omega (arith, lie.1.1.0, was, is, less, ap (λ l. vec_capacity l.scratch) change.loose), disjoint),
      ),
    ) in
    record {
      blocks = ap (λ ys. blocks_of new.slots.entries ys) same ∙ ap (λ es. blocks_of es xs) change.slots ∙ strewn_changed xs f name slot mid (blocks ∙ ap f read.block_is) old.slots.entries found;
      lie = subst (λ (o : Option ℕ). AreLaid new.slots.entries new.blocks_end o (vec_capacity new.loose.scratch)) (sym (ap (λ l. l.free) change.loose ∙ loose)) now;
    }

pub rewrites_shows : (old new : Inside) (name : ℕ) (slot : Slot) (mid : List (ℕ × Slot)) (f : Block → List Block) → IsSound old → value_of old.slots.entries name ≡ Some slot → Rewrites old new name slot mid
    → ((b : Block) → Stands old.items.items slot.start (name, slot) b → Lies new.items.items slot.start mid (f b) (slot.start + slot.length))
    → IsGraph (changed f (graph_of old) name) → Shows new (changed f (graph_of old) name)
rewrites_shows old new name slot mid f sound found change there rules =
    let g = graph_of old in
    let lays = laid old sound in
    let limits = limits_of old sound in
    let whole = split_at_key old.slots.entries name slot found in
    let fits = slot_fits old name slot sound found in
    let was : length_of_slots old.slots.entries ≡ length_of_slots (before old.slots.entries name) + (slot.length + length_of_slots (behind old.slots.entries name)) =
    ap length_of_slots whole ∙ length_of_slots-append (before old.slots.entries name) ((name, slot) ∷ behind old.slots.entries name) in
    let is : length_of_slots new.slots.entries ≡ length_of_slots (before old.slots.entries name) + (length_of_slots mid + length_of_slots (behind old.slots.entries name)) =
    ap length_of_slots change.slots ∙ length_of_slots-append (before old.slots.entries name) (mid ++ behind old.slots.entries name)
    ∙ ap (λ n. length_of_slots (before old.slots.entries name) + n) (length_of_slots-append mid (behind old.slots.entries name)) in
    let now = relaid old new name slot mid f old.loose.free refl sound found change there was is in
    laid_shows new (changed f g name)
    (record {
      blocks = now.blocks;
      lie = now.lie;
      within = omega (arith, lays.within, change.long, change.blocks_end);
      counted = omega (arith, lays.counted, was, is, change.gaps, change.blocks_end);
      behind = rw change.blocks_end (later_same old.items.items new.items.items (slot.start + slot.length) old.blocks_end fits change.later ∙ lays.behind);
      entry = change.entry;
      code_words = ap (λ ws. ws.items) change.code_words;
      bodies = ap (λ bs. bs.items) change.bodies ∙ lays.bodies;
    })
    rules
    (record {
      items = omega (arith, change.long, change.item_room, sound.room.items);
      item_room = omega (arith, change.capacity, change.item_room, sound.room.item_room);
      bodies = omega (arith, ap (λ bs. length bs.items) change.bodies, change.body_room, sound.room.bodies);
      body_room = omega (arith, ap (λ bs. vec_capacity bs) change.bodies, change.body_room, sound.room.body_room);
    })
    (record {
      blocks = omega (arith, limits.blocks, change.spare, ap (λ es. length es) change.slots, ap (λ es. length es) whole, length-append (before old.slots.entries name) (mid ++ behind old.slots.entries name), length-append mid (behind old.slots.entries name), length-append (before old.slots.entries name) ((name, slot) ∷ behind old.slots.entries name));
      item_room = omega (arith, limits.item_room, change.item_room);
      body_room = omega (arith, limits.body_room, change.body_room);
    })

-- the same where no item changes
reslots : (inside : Inside) (name : ℕ) (slot : Slot) (mid : List (ℕ × Slot)) (slots : Listed Slot) (gaps : ℕ) → slots.entries ≡ before inside.slots.entries name ++ (mid ++ behind inside.slots.entries name) → length mid + slots.spare ≡ 1 + inside.slots.spare → gaps + length_of_slots mid ≡ inside.gaps + slot.length
    → Rewrites inside (record inside { slots = slots; gaps = gaps }) name slot mid
reslots inside name slot mid slots gaps is spare counted = record {
  slots = is;
  spare = spare;
  ahead = refl;
  later = refl;
  long = refl;
  capacity = refl;
  gaps = counted;
  blocks_end = refl;
  entry = refl;
  code_words = refl;
  bodies = refl;
  item_room = refl;
  body_room = refl;
  loose = refl;
  strewn = λ _ _. refl;
}

pub set_term_shows : (inside : Inside) (name : ℕ) (slot : Slot) (term : Term) (slots : Listed Slot) → IsSound inside → value_of inside.slots.entries name ≡ Some slot → slots.entries ≡ with_value inside.slots.entries name (record slot { term = term }) → slots.spare ≡ inside.slots.spare → IsGraph (with_term (graph_of inside) name term) → Shows (record inside { slots = slots }) (with_term (graph_of inside) name term)
set_term_shows inside name slot term slots sound found is spare rules =
    rewrites_shows inside (record inside { slots = slots }) name slot ((name, record slot { term = term }) ∷ []) (λ b. record b { term = term } ∷ []) sound found
    (reslots inside name slot ((name, record slot { term = term }) ∷ []) slots inside.gaps
    (is ∙ with_value-split inside.slots.entries name slot (record slot { term = term }) found) (omega (arith, spare)) (omega arith))
    (λ b st. (record { name = st.name; term = refl; counted = st.counted; above = st.above; items = st.items }, omega arith))
    rules

-- the slot of a block without items behind this one
abbrev pub slot_behind : Slot → Term → Slot
slot_behind slot term = record { start = slot.start + slot.length; length = 0; term = term }

-- the slots with one more right behind a block's
insert_slots : (entries : List (ℕ × Slot)) (name : ℕ) (slot : Slot) (new : ℕ) (v : Slot) → value_of entries name ≡ Some slot → insert_after entries name (new, v) ≡ before entries name ++ (name, slot) ∷ (new, v) ∷ behind entries name
insert_slots entries name slot new v found =
    ap (λ es. es ++ (new, v) ∷ behind entries name) (through-before entries name slot found)
    ∙ append_assoc (before entries name) ((name, slot) ∷ []) ((new, v) ∷ behind entries name)

pub insert_shows : (inside : Inside) (name : ℕ) (slot : Slot) (term : Term) (new : ℕ) (slots : Listed Slot) → IsSound inside → value_of inside.slots.entries name ≡ Some slot → slots.entries ≡ insert_after inside.slots.entries name (new, slot_behind slot term) → slots.spare + 1 ≡ inside.slots.spare → IsGraph (inserted_after (graph_of inside) new name term) → Shows (record inside { slots = slots }) (inserted_after (graph_of inside) new name term)
insert_shows inside name slot term new slots sound found is spare rules =
    rewrites_shows inside (record inside { slots = slots }) name slot ((name, slot) ∷ (new, slot_behind slot term) ∷ []) (λ b. b ∷ record { name = new; items = []; term = term } ∷ []) sound found
    (reslots inside name slot ((name, slot) ∷ (new, slot_behind slot term) ∷ []) slots inside.gaps
    (is ∙ insert_slots inside.slots.entries name slot new (slot_behind slot term) found) (omega (arith, spare)) (omega arith))
    (λ b st. (st, (record { name = refl; term = refl; counted = refl; above = omega arith; items = refl }, omega arith)))
    rules

with_value-at : (front back : List (ℕ × Slot)) (key : ℕ) (old new : Slot) → value_of front key ≡ None → with_value (front ++ (key, old) ∷ back) key new ≡ front ++ (key, new) ∷ back
with_value-at [] back key old new ahead = rw (eq-eqb key key refl)
with_value-at (e ∷ front) back key old new ahead =
    elim (cases_Bool (e.0 == key)) [
      | inl here ↦ absurd (cc (rw here at ahead))
      | inr apart ↦ rw apart (ap (λ es. e ∷ es) (with_value-at front back key old new (rw apart at ahead)))
    ]

abbrev pub first_half : Slot → ℕ → Slot
first_half slot at = record { start = slot.start; length = at; term = Fall }

abbrev pub second_half : Slot → ℕ → Slot
second_half slot at = record { start = slot.start + at; length = slot.length - at; term = slot.term }

pub split_items : (new at : ℕ) (b : Block) → items_of_blocks (halves new at b) ≡ b.items
split_items new at b = ap (λ is. take at b.items ++ is) (append-nil (drop at b.items)) ∙ take-append-drop at b.items

-- a block falls into two where it lies
stands_split : (xs : List Item) (name new at : ℕ) (slot : Slot) (b : Block) → at ≤ slot.length → Stands xs slot.start (name, slot) b
    → Lies xs slot.start ((name, first_half slot at) ∷ (new, second_half slot at) ∷ []) (halves new at b) (slot.start + slot.length)
stands_split xs name new at slot b fits st =
    let there : at ≤ length b.items = omega (arith, fits, st.counted) in
    let left : at + (slot.length - at) ≡ slot.length = omega (arith, fits) in (
      record {
        name = st.name;
        term = refl;
        counted = sym (length-take-le at b.items there);
        above = omega arith;
        items = sym (take-take at slot.length (drop slot.start xs) fits) ∙ ap (take at) st.items;
      },
      (
        record {
          name = refl;
          term = st.term;
          counted = omega (arith, st.counted, length-drop at b.items);
          above = omega arith;
          items = ap (take (slot.length - at)) (sym (drop-drop at slot.start xs))
              ∙ sym (drop-take at (slot.length - at) (drop slot.start xs))
              ∙ ap (λ n. drop at (take n (drop slot.start xs))) left
              ∙ ap (drop at) st.items;
        },
        omega (arith, fits),
      ),
    )

pub split_shows : (inside : Inside) (name place : ℕ) (slot : Slot) (new : ℕ) (mid slots : Listed Slot) → IsSound inside → place ≤ length (items_of (graph_of inside) name) → value_of inside.slots.entries name ≡ Some slot → mid.entries ≡ insert_after inside.slots.entries name (new, second_half slot place) → mid.spare + 1 ≡ inside.slots.spare → slots.entries ≡ with_value mid.entries name (first_half slot place) → slots.spare ≡ mid.spare → IsGraph (split_at (graph_of inside) new name place) → Shows (record inside { slots = slots }) (split_at (graph_of inside) new name place)
split_shows inside name place slot new mid slots sound fits found mid_is mid_spare is spare rules =
    let read = reads inside name slot sound found in
    let small : place ≤ slot.length = omega (arith, fits, read.length_is, ap (λ o. length (block_items o)) read.is) in
    rewrites_shows inside (record inside { slots = slots }) name slot ((name, first_half slot place) ∷ (new, second_half slot place) ∷ []) (halves new place) sound found
    (reslots inside name slot ((name, first_half slot place) ∷ (new, second_half slot place) ∷ []) slots inside.gaps
    (is ∙ ap (λ es. with_value es name (first_half slot place)) (mid_is ∙ insert_slots inside.slots.entries name slot new (second_half slot place) found)
    ∙ with_value-at (before inside.slots.entries name) ((new, second_half slot place) ∷ behind inside.slots.entries name) name slot (first_half slot place) (value_of-before inside.slots.entries name))
    (omega (arith, spare, mid_spare)) (omega (arith, small)))
    (λ b st. stands_split inside.items.items name new place slot b small st)
    rules

pub remove_shows : (inside : Inside) (name : ℕ) (slot : Slot) (slots : Listed Slot) (gaps : ℕ) → IsSound inside → value_of inside.slots.entries name ≡ Some slot → slots.entries ≡ without inside.slots.entries name → slots.spare ≡ inside.slots.spare + 1 → gaps ≡ inside.gaps + slot.length → IsGraph (without_block (graph_of inside) name)
    → Shows (record inside { slots = slots; gaps = gaps }) (without_block (graph_of inside) name)
remove_shows inside name slot slots gaps sound found is spare counted rules =
    rewrites_shows inside (record inside { slots = slots; gaps = gaps }) name slot [] (λ _. []) sound found
    (reslots inside name slot [] slots gaps is (omega (arith, spare)) (omega (arith, counted)))
    (λ b st. omega arith)
    rules

-- FEWER ITEMS

-- items with others from a place on, behind which the next `left` have come
abbrev pub shrunk_items : List Item → ℕ → ℕ → List Item → ℕ → List Item
shrunk_items xs at count by left = replaced_items xs at (length by + left) (by ++ take left (drop (at + count) xs))

written_long : (xs by : List Item) (at count left : ℕ) → at + count + left ≤ length xs → length (by ++ take left (drop (at + count) xs)) ≡ length by + left
written_long xs by at count left fits =
    omega (arith, length-append by (take left (drop (at + count) xs)), length-take-le left (drop (at + count) xs) (omega (arith, fits, length-drop (at + count) xs)))

pub shrunk_long : (xs by : List Item) (at count left : ℕ) (ys : List Item) → length by ≤ count → at + count + left ≤ length xs → ys ≡ shrunk_items xs at count by left → length ys ≡ length xs
shrunk_long xs by at count left ys fewer fits is =
    omega (arith, ap (λ zs. length zs) is, length-replaced_items xs (by ++ take left (drop (at + count) xs)) at (length by + left) (omega (arith, fits, fewer)), written_long xs by at count left fits)

-- the items of a block that is shorter, where it lies
shrunk_piece : (xs by : List Item) (start at count left : ℕ) → length by ≤ count → start + at + count + left ≤ length xs
    → take (at + length by + left) (drop start (shrunk_items xs (start + at) count by left)) ≡ replaced_items (take (at + count + left) (drop start xs)) at count by
shrunk_piece xs by start at count left fewer fits =
    let later = take left (drop (start + at + count) xs) in
    let size = written_long xs by (start + at) count left fits in
    let end : start + (at + length by + left) ≡ start + at + (length by + left) = omega arith in
    let place : start + (at + count) ≡ start + at + count = omega arith in
    sym (drop-take start (at + length by + left) (shrunk_items xs (start + at) count by left))
    ∙ ap (λ n. drop start (take n (shrunk_items xs (start + at) count by left))) end
    ∙ ap (drop start) (upto_written xs (by ++ later) (start + at) (length by + left) (omega (arith, fits)) size)
    ∙ drop-append-le start (take (start + at) xs) (by ++ later) (omega (arith, length-take-le (start + at) xs (omega (arith, fits))))
    ∙ ap (λ ys. ys ++ (by ++ later)) (drop-take start at xs ∙ sym (take-take at (at + count + left) (drop start xs) (omega arith)))
    ∙ ap (λ ys. take at (take (at + count + left) (drop start xs)) ++ (by ++ ys))
    (ap (λ n. take left (drop n xs)) (sym place) ∙ ap (take left) (sym (drop-drop (at + count) start xs)) ∙ sym (drop-take (at + count) left (drop start xs)))

pub replace_less_shows : (old : Inside) (name : ℕ) (slot : Slot) (at count left : ℕ) (by : List Item) (slots : Listed Slot) (items : Vec Item Global) (gaps length_now : ℕ) → IsSound old → old.loose.free ≡ None → value_of old.slots.entries name ≡ Some slot
    → length by ≤ count → at + count + left ≡ slot.length → length_now ≡ at + length by + left
    → slots.entries ≡ with_value old.slots.entries name (record slot { length = length_now }) → slots.spare ≡ old.slots.spare
    → items.items ≡ shrunk_items old.items.items (slot.start + at) count by left → vec_capacity items ≡ vec_capacity old.items
    → gaps ≡ old.gaps + (count - length by) → IsGraph (replaced (graph_of old) name at count by)
    → Shows (record old { slots = slots; items = items; gaps = gaps }) (replaced (graph_of old) name at count by)
replace_less_shows old name slot at count left by slots items gaps length_now sound order found fewer size now is spare items_are capacity counted rules =
    let xs = old.items.items in
    let read = reads old name slot sound found in
    let fits : slot.start + at + count + left ≤ length old.items.items = omega (arith, read.within, size) in
    let there : slot.start + at ≤ length old.items.items = omega (arith, fits) in
    let written = by ++ take left (drop (slot.start + at + count) xs) in
    let long = written_long xs by (slot.start + at) count left fits in
    rewrites_shows old (record old { slots = slots; items = items; gaps = gaps }) name slot ((name, record slot { length = length_now }) ∷ []) (λ b. record b { items = replaced_items b.items at count by } ∷ []) sound found
    (record {
      slots = is ∙ with_value-split old.slots.entries name slot (record slot { length = length_now }) found;
      spare = omega (arith, spare);
      ahead = ap (take slot.start) items_are ∙ ahead_written xs written slot.start (slot.start + at) (length by + left) (omega arith) there;
      later = ap (drop (slot.start + slot.length)) items_are ∙ behind_written xs written (slot.start + at) (length by + left) (slot.start + slot.length) there long (omega (arith, size, fewer));
      long = shrunk_long xs by (slot.start + at) count left items.items fewer fits items_are;
      capacity = capacity;
      gaps = omega (arith, counted, now, size, fewer);
      blocks_end = refl;
      entry = refl;
      code_words = refl;
      bodies = refl;
      item_room = refl;
      body_room = refl;
      loose = refl;
      strewn = λ free loose. absurd (cc (sym order ∙ loose));
    })
    (λ b st.
    let was : take (at + count + left) (drop slot.start old.items.items) ≡ b.items = ap (λ n. take n (drop slot.start old.items.items)) size ∙ st.items in
    let inside : at + count ≤ length b.items = omega (arith, st.counted, size) in (
      record {
        name = st.name;
        term = st.term;
        counted = omega (arith, now, size, st.counted, length-replaced_items b.items by at count inside);
        above = st.above;
        items = ap (λ ys. take length_now (drop slot.start ys)) items_are
            ∙ ap (λ n. take n (drop slot.start (shrunk_items xs (slot.start + at) count by left))) now
            ∙ shrunk_piece xs by slot.start at count left fewer fits
            ∙ ap (λ ys. replaced_items ys at count by) was;
      },
      omega (arith, now, size, fewer),
    ))
    rules
