-- What the fields show once blocks have lost their last items.
use Rattle.std.proofs.Common.{◌≡◌, ℕ, ◌+◌, ◌-◌, ◌≤◌, ◌==◌, true, List, [], ◌∷◌, ◌++◌, length, take, drop, Vec, Global, vec_capacity, Option, None, Some, is_some, refl, sym, ap, ◌∙◌, subst, inl, inr, suc, arith, length-append, length-drop}
use Rattle.std.proofs.lemmas.Bool.{cases_Bool, eqb-true}
use Rattle.std.proofs.lemmas.List.{append-nil, length-take-le, take-take, drop_all}
use Rattle.std.proofs.lemmas.List.Elements.{All-nil}
use Rattle.sq_arena.specs.Arena.{Arena as Listed}
use Rattle.sq_arena.specs.Entries.{keys, HasDistinctKeys, value_of, with_value, first_key}
use Rattle.sq_graph.specs.declared.item.Item.{Item}
use Rattle.sq_graph.specs.declared.slot.Slot.{Slot}
use Rattle.sq_graph.specs.declared.graph.Graph.TheInside.{Inside}
use Rattle.sq_graph.specs.Graph.{Block, Graph}
use Rattle.sq_graph.specs.Blocks.{named, block_of, block_items, items_of, HasBlock, HasProcedure, items_of_blocks, items_of_bodies, all_items}
use Rattle.sq_graph.specs.Rules.{IsGraph}
use Rattle.sq_graph.specs.Operations.{with_blocks, replaced_items}
use Rattle.sq_graph.specs.Trimmed.{trimmed, trimmed_each}
use Rattle.sq_graph.specs.Packed.{cut_slot, cut_slots, pieces_of, AreApart}
use Rattle.sq_graph.specs.Cursor.{ahead_of, rest_from, renumbered, length_of_slots}
use Rattle.sq_graph.specs.Slots.{bodies_from}
use Rattle.sq_graph.specs.Layout.{graph_of, spare_of, IsSound}
use Rattle.sq_graph.proofs.Sizes.{sizes, same_room}
use Rattle.sq_graph.proofs.Closing.{from_start}
use Rattle.sq_graph.proofs.Held.{Shows, shows, limits_of, in_order}
use Rattle.sq_graph.proofs.Laid.{Stands, Lies, lies_lower, lies_apart, lies_pieces, lies_slots, lies_within, lies_count, length-renumbered}
use Rattle.sq_graph.proofs.RulesByBlock.{ItemStands}
use Rattle.sq_graph.proofs.OperationRules.{replaced_rules}

-- ONE SLOT

pub cut_found : (most name : ℕ) (v : Slot) (es : List (ℕ × Slot)) → value_of es name ≡ Some v → with_value es name (record v { length = v.length - most }) ≡ cut_slot most es name
cut_found most name v [] found = absurd (cc)
cut_found most name v (e ∷ es) found =
    elim (cases_Bool (e.0 == name)) [
      | inl here ↦
          let value : e.1 ≡ v = cc (rw here at found) in
          rw here (λ i. (sym (eqb-true e.0 name here) i, record (sym value i) { length = (sym value i).length - most }) ∷ es)
      | inr apart ↦ rw apart (ap (λ xs. e ∷ xs) (cut_found most name v es (rw apart at found)))
    ]

pub cut_absent : (most name : ℕ) (es : List (ℕ × Slot)) → value_of es name ≡ None → cut_slot most es name ≡ es
cut_absent most name [] none = refl
cut_absent most name (e ∷ es) none =
    elim (cases_Bool (e.0 == name)) [
      | inl here ↦ absurd (cc (rw here at none))
      | inr apart ↦ rw apart (ap (λ xs. e ∷ xs) (cut_absent most name es (rw apart at none)))
    ]

cut_keys : (most name : ℕ) (es : List (ℕ × Slot)) → keys (cut_slot most es name) ≡ keys es
cut_keys most name [] = refl
cut_keys most name (e ∷ es) =
    elim (cases_Bool (e.0 == name)) [ inl here ↦ rw here refl | inr apart ↦ rw apart (ap (λ ks. e.0 ∷ ks) (cut_keys most name es)) ]

all_cut_keys : (most : ℕ) (names : List ℕ) (es : List (ℕ × Slot)) → keys (cut_slots most names es) ≡ keys es
all_cut_keys most [] es = refl
all_cut_keys most (n ∷ names) es = all_cut_keys most names (cut_slot most es n) ∙ cut_keys most n es

pub distinct_cut : (most : ℕ) (names : List ℕ) (es : List (ℕ × Slot)) → HasDistinctKeys es → HasDistinctKeys (cut_slots most names es)
distinct_cut most names es distinct = rw (all_cut_keys most names es) distinct

-- SLOTS THAT SHOW BLOCKS

kept_items : (items : List Item) (count most : ℕ) → count ≡ length items → replaced_items items (count - most) most [] ≡ take (length items - most) items
kept_items items count most is =
    ap (λ xs. take (count - most) items ++ xs) (drop_all (count - most + most) items (omega (arith, is)))
    ∙ append-nil (take (count - most) items)
    ∙ ap (λ n. take (n - most) items) is

stands_cut : (xs : List Item) (low count most : ℕ) (e : ℕ × Slot) (b : Block) → count ≡ length b.items → Stands xs low e b
    → Stands xs low (e.0, record e.1 { length = e.1.length - most }) (record b { items = replaced_items b.items (count - most) most [] })
stands_cut xs low count most e b is st =
    let kept = kept_items b.items count most is in
    let size = length-take-le (length b.items - most) b.items (omega arith) in
    record {
      name = st.name;
      term = st.term;
      counted = omega (arith, st.counted, ap (λ ys. length ys) kept, size);
      above = st.above;
      items = sym (take-take (e.1.length - most) e.1.length (drop e.1.start xs) (omega arith))
          ∙ ap (take (e.1.length - most)) st.items
          ∙ ap (λ n. take (n - most) b.items) st.counted
          ∙ sym kept;
    }

lies_cut : (xs : List Item) (end name count most : ℕ) (es : List (ℕ × Slot)) (bs : List Block) (low : ℕ) → ((b : Block) → value_of (named bs) name ≡ Some b → count ≡ length b.items) → Lies xs low es bs end
    → Lies xs low (cut_slot most es name) (with_blocks (λ b. record b { items = replaced_items b.items (count - most) most [] } ∷ []) bs name) end
lies_cut xs end name count most [] [] low all lies = lies
lies_cut xs end name count most [] (b ∷ bs) low all lies = absurd lies
lies_cut xs end name count most (e ∷ es) [] low all lies = absurd lies
lies_cut xs end name count most (e ∷ es) (b ∷ bs) low all lies =
    elim (cases_Bool (b.name == name)) [
      | inl here ↦
          let too : (e.0 == name) ≡ true = ap (λ k. k == name) lies.0.name ∙ here in
          rw (too, here)
          (stands_cut xs low count most e b (all b (rw here refl)) lies.0, lies_lower xs (e.1.start + e.1.length) (e.1.start + (e.1.length - most)) es bs end (omega arith) lies.1)
      | inr apart ↦
          let too = ap (λ k. k == name) lies.0.name ∙ apart in
          rw (too, apart) (lies.0, lies_cut xs end name count most es bs (e.1.start + e.1.length) (λ c is. all c (rw apart is)) lies.1)
    ]

lies_each : (xs : List Item) (end most low : ℕ) (names : List ℕ) (g : Graph) (es : List (ℕ × Slot)) → Lies xs low es g.blocks end → Lies xs low (cut_slots most names es) (trimmed_each most names g).blocks end
lies_each xs end most low [] g es lies = lies
lies_each xs end most low (n ∷ names) g es lies =
    lies_each xs end most low names (trimmed most g n) (cut_slot most es n)
    (lies_cut xs end n (length (items_of g n)) most es g.blocks low (λ b is. ap (λ (o : Option Block). length (block_items o)) is) lies)

-- THE GRAPH

nothing_changed : (f : Block → List Block) (bs : List Block) (name : ℕ) → value_of (named bs) name ≡ None → with_blocks f bs name ≡ bs
nothing_changed f [] name none = refl
nothing_changed f (b ∷ bs) name none =
    elim (cases_Bool (b.name == name)) [
      | inl here ↦ absurd (cc (rw here at none))
      | inr apart ↦ rw apart (ap (λ cs. b ∷ cs) (nothing_changed f bs name (rw apart at none)))
    ]

trimmed_rules : (most name : ℕ) (g : Graph) (o : Option Block) → block_of g name ≡ o → IsGraph g → IsGraph (trimmed most g name)
trimmed_rules most name g None is rules =
    let count = length (items_of g name) - most in
    subst (λ bs. IsGraph (record g { blocks = bs })) (sym (nothing_changed (λ b. record b { items = replaced_items b.items count most [] } ∷ []) g.blocks name is)) rules
trimmed_rules most name g (Some b) is rules =
    replaced_rules g name (length (items_of g name) - most) most [] rules (ap is_some is) (All-nil (ItemStands (HasBlock g) (HasProcedure g)))

pub each_rules : (most : ℕ) (names : List ℕ) (g : Graph) → IsGraph g → IsGraph (trimmed_each most names g)
each_rules most [] g rules = rules
each_rules most (n ∷ names) g rules = each_rules most names (trimmed most g n) (trimmed_rules most n g (block_of g n) refl rules)

-- the other parts stay
pub record Beside (g h : Graph) : Type 0 where
  pub entry : h.entry ≡ g.entry
  pub code_words : h.code_words ≡ g.code_words
  pub procedures : h.procedures ≡ g.procedures

beside : (most : ℕ) (names : List ℕ) (g : Graph) → Beside g (trimmed_each most names g)
beside most [] g = record { entry = refl; code_words = refl; procedures = refl }
beside most (n ∷ names) g =
    let rest = beside most names (trimmed most g n) in
    record { entry = rest.entry; code_words = rest.code_words; procedures = rest.procedures }

-- the slots with shorter lengths show the blocks
lies : (old : Inside) (most : ℕ) (names : List ℕ) → IsSound old → old.loose.free ≡ None → Lies old.items.items 0 (cut_slots most names old.slots.entries) (trimmed_each most names (graph_of old)).blocks old.blocks_end
lies old most names sound order =
    let g = graph_of old in
    lies_each old.items.items old.blocks_end most 0 names g old.slots.entries (in_order old sound order)

pub cut_apart : (old : Inside) (most : ℕ) (names : List ℕ) → IsSound old → old.loose.free ≡ None → AreApart (cut_slots most names old.slots.entries) 0 old.blocks_end
cut_apart old most names sound order = lies_apart old.items.items 0 _ _ old.blocks_end (lies old most names sound order)

pub cut_distinct : (old : Inside) (most : ℕ) (names : List ℕ) → IsSound old → HasDistinctKeys (cut_slots most names old.slots.entries)
cut_distinct old most names sound = distinct_cut most names old.slots.entries sound.gaps.distinct

pub cut_fits : (old : Inside) (most : ℕ) (names : List ℕ) → IsSound old → old.loose.free ≡ None → length_of_slots (cut_slots most names old.slots.entries) ≤ old.blocks_end
cut_fits old most names sound order = omega (arith, lies_within old.items.items 0 _ _ old.blocks_end (lies old most names sound order))

length_cut : (most name : ℕ) (es : List (ℕ × Slot)) → length (cut_slot most es name) ≡ length es
length_cut most name [] = refl
length_cut most name (e ∷ es) =
    elim (cases_Bool (e.0 == name)) [ inl here ↦ rw here refl | inr apart ↦ rw apart (ap suc (length_cut most name es)) ]

length_cuts : (most : ℕ) (names : List ℕ) (es : List (ℕ × Slot)) → length (cut_slots most names es) ≡ length es
length_cuts most [] es = refl
length_cuts most (n ∷ names) es = length_cuts most names (cut_slot most es n) ∙ length_cut most n es

-- fields in which blocks have lost items
pub record Trims (old new : Inside) (most : ℕ) (names : List ℕ) : Type 0 where
  pub slots : new.slots.entries ≡ renumbered 0 (cut_slots most names old.slots.entries)
  pub spare : new.slots.spare ≡ old.slots.spare
  pub items_are : new.items.items ≡ pieces_of old.items.items (cut_slots most names old.slots.entries) ++ drop old.blocks_end old.items.items
  pub capacity : vec_capacity new.items ≡ vec_capacity old.items
  pub blocks_end : new.blocks_end ≡ length_of_slots (cut_slots most names old.slots.entries)
  pub gaps : new.gaps ≡ 0
  pub loose : new.loose ≡ old.loose
  pub entry : new.entry ≡ old.entry
  pub code_words : new.code_words ≡ old.code_words
  pub bodies : new.bodies ≡ old.bodies
  pub item_room : new.item_room ≡ old.item_room
  pub body_room : new.body_room ≡ old.body_room

items_left : (old new : Inside) (most : ℕ) (names : List ℕ) → IsSound old → old.loose.free ≡ None → Trims old new most names → new.items.items ≡ all_items (trimmed_each most names (graph_of old))
items_left old new most names sound order change =
    let g = graph_of old in
    let still = beside most names g in
    let bodies : drop old.blocks_end old.items.items ≡ items_of_bodies (trimmed_each most names g).procedures =
    sound.behind ∙ ap items_of_bodies (sym still.procedures) in
    change.items_are
    ∙ ap (λ xs. xs ++ drop old.blocks_end old.items.items) (lies_pieces old.items.items 0 _ _ old.blocks_end (lies old most names sound order))
    ∙ ap (λ xs. items_of_blocks (trimmed_each most names g).blocks ++ xs) bodies

pub trim_shows : (old new : Inside) (most : ℕ) (names : List ℕ) → IsSound old → old.loose.free ≡ None → Trims old new most names → Shows new (trimmed_each most names (graph_of old))
trim_shows old new most names sound order change =
    let g = graph_of old in
    let limits = limits_of old sound in
    let size = sizes old sound in
    let there = lies old most names sound order in
    let still = beside most names g in
    let room : length new.items.items ≤ length old.items.items =
    omega (arith, ap (λ xs. length xs) change.items_are, length-append (pieces_of old.items.items (cut_slots most names old.slots.entries)) (drop old.blocks_end old.items.items), ap (λ xs. length xs) (lies_pieces old.items.items 0 _ _ old.blocks_end there), lies_count old.items.items 0 _ _ old.blocks_end there, cut_fits old most names sound order, length-drop old.blocks_end old.items.items, size.blocks_end) in
    shows new (trimmed_each most names g)
    (record {
      slots = change.slots ∙ lies_slots old.items.items 0 0 _ _ old.blocks_end there;
      items = items_left old new most names sound order change;
      blocks_end = change.blocks_end ∙ lies_count old.items.items 0 _ _ old.blocks_end there;
      gaps = change.gaps;
      order = ap (λ l. l.free) change.loose ∙ order;
      entry = change.entry ∙ sym still.entry;
      code_words = ap (λ ws. ws.items) change.code_words ∙ sym still.code_words;
      bodies = ap (λ bs. bs.items) change.bodies ∙ sound.bodies ∙ ap (bodies_from 0) (sym still.procedures);
    })
    (each_rules most names g sound.rules)
    (record {
      items = omega (arith, room, change.item_room, sound.room.items);
      item_room = omega (arith, change.capacity, change.item_room, sound.room.item_room);
      bodies = omega (arith, ap (λ bs. length bs.items) change.bodies, change.body_room, sound.room.bodies);
      body_room = omega (arith, ap (λ bs. vec_capacity bs) change.bodies, change.body_room, sound.room.body_room);
    })
    (record {
      blocks = omega (arith, limits.blocks, change.spare, ap (λ es. length es) change.slots, length-renumbered 0 (cut_slots most names old.slots.entries), length_cuts most names old.slots.entries);
      item_room = omega (arith, limits.item_room, change.item_room);
      body_room = omega (arith, limits.body_room, change.body_room);
    })

pub trim_spare : (old new : Inside) (most : ℕ) (names : List ℕ) → IsSound old → old.loose.free ≡ None → Trims old new most names
    → spare_of new ≡ record (spare_of old) { items = (spare_of old).items + length (all_items (graph_of old)) - length (all_items (graph_of new)) }
trim_spare old new most names sound order change =
    let size = sizes old sound in
    let is : new.items.items ≡ all_items (graph_of new) = items_left old new most names sound order change ∙ ap all_items (sym (trim_shows old new most names sound order change).is) in
    same_room _ _ change.spare
    (omega (arith, ap (λ xs. length xs) is, change.item_room, change.gaps, size.items, size.item_count))
    (omega (arith, ap (λ bs. length bs.items) change.bodies, change.body_room))

-- the passes make it so
pub trims : (old : Inside) (most : ℕ) (names : List ℕ) (cut slots : Listed Slot) (items : Vec Item Global) (count : ℕ) (head : Option ℕ)
    → cut.entries ≡ cut_slots most names old.slots.entries → cut.spare ≡ old.slots.spare
    → head ≡ first_key cut.entries → slots.entries ≡ ahead_of cut.entries head ++ renumbered 0 (rest_from cut.entries head) → slots.spare ≡ cut.spare
    → items.items ≡ pieces_of old.items.items cut.entries ++ drop old.blocks_end old.items.items → vec_capacity items ≡ vec_capacity old.items
    → count ≡ length_of_slots cut.entries
    → Trims old (record old { slots = slots; items = items; blocks_end = count; gaps = 0 }) most names
trims old most names cut slots items count head entries spare at numbered still packed capacity counted = record {
  slots = from_start cut.entries slots.entries head at numbered ∙ ap (renumbered 0) entries;
  spare = still ∙ spare;
  items_are = packed ∙ ap (λ es. pieces_of old.items.items es ++ drop old.blocks_end old.items.items) entries;
  capacity = capacity;
  blocks_end = counted ∙ ap length_of_slots entries;
  gaps = refl;
  loose = refl;
  entry = refl;
  code_words = refl;
  bodies = refl;
  item_room = refl;
  body_room = refl;
}
