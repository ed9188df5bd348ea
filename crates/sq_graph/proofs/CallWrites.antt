-- Items of blocks become calls in a copy.
use Rattle.std.proofs.Common.{◌≡◌, ℕ, zero, suc, ◌+◌, ◌<◌, ◌≤◌, ◌^◌, List, [], ◌∷◌, ◌++◌, take, drop, length, get_or, Option, None, Some, refl, sym, ap, ◌∙◌, subst, arith, append_assoc, length-append}
use Rattle.std.proofs.lemmas.List.{append-nil, drop-drop}
use Rattle.sq_arena.specs.Entries.{HasDistinctKeys, value_of, with_value, first_key, next_key}
use Rattle.sq_graph.specs.declared.calls.ItemFate.{ItemFate}
use Rattle.sq_graph.specs.declared.calls.ItemFate.TheVariants.{Stays, Calls, Goes}
use Rattle.sq_graph.specs.declared.item.Item.{Item}
use Rattle.sq_graph.specs.declared.slot.Slot.{Slot}
use Rattle.sq_graph.specs.declared.graph.Graph.TheInside.{Inside}
use Rattle.sq_graph.specs.Graph.{Block, Graph}
use Rattle.sq_graph.specs.Blocks.{block_of, items_of, items_of_blocks, items_of_bodies, all_items}
use Rattle.sq_graph.specs.Layout.{shown, IsSound}
use Rattle.sq_graph.specs.Room.{GraphAndRoom, IsSmall, total_of}
use Rattle.sq_graph.specs.Calls.{met_item, met_items, met_blocks, with_calls}
use Rattle.sq_graph.specs.Rules.{IsGraph}
use Rattle.sq_graph.specs.Slots.{slots_from, slots_of, bodies_from, without_starts}
use Rattle.sq_graph.proofs.Copying.{names, Copies, CopiesAt, Copied, copies_first, copies_at, copies_step, copies_all, slot_there, block_there, items_there, slot_long, length-slots_from}
use Rattle.sq_graph.proofs.Held.{Shows, shows, length-bodies_from}
use Rattle.sq_graph.proofs.Located.{items_of_blocks-append}

-- ITEMS

pub met_none : (fates : List ItemFate) → met_items fates [] ≡ []
met_none [] = refl
met_none (f ∷ fates) = refl

-- one item more
pub met_more : (fates : List ItemFate) (items : List Item) (i : ℕ) (f : ItemFate) (x : Item) → i < length fates → i < length items → met_items fates (take (i + 1) items) ≡ met_items fates (take i items) ++ met_item (get_or fates i f) (get_or items i x)
met_more [] items i f x few inside = absurd (omega (arith, few))
met_more (d ∷ fates) [] i f x few inside = absurd (omega (arith, inside))
met_more (d ∷ fates) (y ∷ items) zero f x few inside = ap (λ is. met_item d y ++ is) (met_none fates) ∙ append-nil (met_item d y)
met_more (d ∷ fates) (y ∷ items) (suc i) f x few inside =
    let e : suc i + 1 ≡ suc (i + 1) = omega arith in
    ap (λ k. met_items (d ∷ fates) (take k (y ∷ items))) e
    ∙ ap (λ is. met_item d y ++ is) (met_more fates items i f x (omega (arith, few)) (omega (arith, inside)))
    ∙ sym (append_assoc (met_item d y) (met_items fates (take i items)) (met_item (get_or fates i f) (get_or items i x)))

-- what stands in place of an item is pushed
pub met_pushed : (old now new from : List Item) (fates : List ItemFate) (i : ℕ) (fate : ItemFate) (item : Item) (f : ItemFate) (x : Item) → now ≡ old ++ met_items fates (take i from) → i < length from → length from ≤ length fates → get_or fates i f ≡ fate → item ≡ get_or from i x → new ≡ now ++ met_item fate item
    → new ≡ old ++ met_items fates (take (i + 1) from)
met_pushed old now new from fates i fate item f x are inside many fate_is item_is is =
    is ∙ ap (λ xs. xs ++ met_item fate item) are
    ∙ ap (λ d. (old ++ met_items fates (take i from)) ++ met_item d item) (sym fate_is)
    ∙ ap (λ y. (old ++ met_items fates (take i from)) ++ met_item (get_or fates i f) y) item_is
    ∙ append_assoc old (met_items fates (take i from)) (met_item (get_or fates i f) (get_or from i x))
    ∙ ap (λ xs. old ++ xs) (sym (met_more fates from i f x (omega (arith, inside, many)) inside))

met_one : (fate : ItemFate) (item : Item) → length (met_item fate item) ≤ 1
met_one Stays item = omega arith
met_one (Calls procedure) item = omega arith
met_one Goes item = omega arith

pub met_fewer : (fates : List ItemFate) (items : List Item) → length (met_items fates items) ≤ length items
met_fewer [] items = omega arith
met_fewer (f ∷ fates) [] = omega arith
met_fewer (f ∷ fates) (i ∷ items) = omega (arith, met_one f i, met_fewer fates items, length-append (met_item f i) (met_items fates items))

-- BLOCKS

pub met_names : (fates : List ItemFate) (bs : List Block) → names (met_blocks fates bs) ≡ names bs
met_names fates [] = refl
met_names fates (b ∷ bs) = ap (λ ns. b.name ∷ ns) (met_names (drop (length b.items) fates) bs)

pub met_append : (fates : List ItemFate) (front : List Block) (b : Block) → met_blocks fates (front ++ b ∷ []) ≡ met_blocks fates front ++ record b { items = met_items (drop (length (items_of_blocks front)) fates) b.items } ∷ []
met_append fates [] b = refl
met_append fates (c ∷ front) b =
    let ahead : drop (length (items_of_blocks front)) (drop (length c.items) fates) ≡ drop (length (c.items ++ items_of_blocks front)) fates =
    drop-drop (length (items_of_blocks front)) (length c.items) fates ∙ ap (λ n. drop n fates) (sym (length-append c.items (items_of_blocks front))) in
    ap (λ bs. record c { items = met_items fates c.items } ∷ bs) (met_append (drop (length c.items) fates) front b)
    ∙ ap (λ fs. record c { items = met_items fates c.items } ∷ (met_blocks (drop (length c.items) fates) front ++ record b { items = met_items fs b.items } ∷ [])) ahead

pub met_blocks_fewer : (fates : List ItemFate) (bs : List Block) → length (items_of_blocks (met_blocks fates bs)) ≤ length (items_of_blocks bs)
met_blocks_fewer fates [] = omega arith
met_blocks_fewer fates (b ∷ bs) =
    omega (
      arith,
      met_fewer fates b.items,
      met_blocks_fewer (drop (length b.items) fates) bs,
      length-append (met_items fates b.items) (items_of_blocks (met_blocks (drop (length b.items) fates) bs)),
      length-append b.items (items_of_blocks bs),
    )

-- THE LOOP

module _ (g : Graph) (fates : List ItemFate) where
  -- the first blocks are copied, which have so many items
  pub record Calling (now : List (ℕ × Slot)) (place : Option ℕ) (items : List Item) (ahead : ℕ) : Type 0 where
    pub front : List Block
    pub walk : Copies g (met_blocks fates) (met_names fates) now place items front
    pub ahead_is : ahead ≡ length (items_of_blocks front)

  abbrev pub CallingAt : List (ℕ × Slot) → ℕ → List Item → List Block → Type 0
  CallingAt now name items front = CopiesAt g (met_blocks fates) (met_names fates) now name items front

  pub calling_first : (now : List (ℕ × Slot)) (place : Option ℕ) → HasDistinctKeys now → without_starts now ≡ slots_of g.blocks → place ≡ first_key now → Calling now place [] 0
  calling_first now place distinct links is = record { front = []; walk = copies_first g (met_blocks fates) (met_names fates) now place refl distinct links is; ahead_is = refl }

  pub calling_at : (now : List (ℕ × Slot)) (name : ℕ) (items : List Item) (ahead : ℕ) (c : Calling now (Some name) items ahead) → CallingAt now name items c.front
  calling_at now name items ahead c = copies_at g (met_blocks fates) (met_names fates) now name items c.front c.walk

  module _ (now : List (ℕ × Slot)) (name : ℕ) (items : List Item) (ahead : ℕ) (rules : IsGraph g) (many : length fates ≡ length (items_of_blocks g.blocks)) (c : Calling now (Some name) items ahead) where
    pub at : CallingAt now name items c.front
    at = calling_at now name items ahead c

    pub slot_is : value_of now name ≡ Some at.slot
    slot_is = slot_there g (met_blocks fates) (met_names fates) now name items c.front rules at

    pub block_is : block_of g name ≡ Some at.block
    block_is = block_there g (met_blocks fates) (met_names fates) now name items c.front rules at

    pub slot_size : (v : Slot) → value_of now name ≡ Some v → v.length ≡ length (items_of g name)
    slot_size v found =
        let same : at.slot ≡ v = cc (sym slot_is ∙ found) in
        ap (λ (s : Slot). s.length) (sym same) ∙ slot_long g (met_blocks fates) (met_names fates) now name items c.front rules at

    -- the fates of the block's items are there
    pub fates_left : ahead + length (items_of g name) ≤ length fates
    fates_left =
        let mine = items_there g (met_blocks fates) (met_names fates) now name items c.front rules at in
        omega (
          arith,
          many,
          c.ahead_is,
          ap (λ (xs : List Item). length xs) mine,
          ap (λ bs. length (items_of_blocks bs)) at.whole,
          ap (λ (xs : List Item). length xs) (items_of_blocks-append c.front (at.block ∷ at.back)),
          length-append (items_of_blocks c.front) (at.block.items ++ items_of_blocks at.back),
          length-append at.block.items (items_of_blocks at.back),
        )

    pub calling_step : (v v' : Slot) (start count : ℕ) (fs : List ItemFate) (items' : List Item) → value_of now name ≡ Some v → start ≡ length items → fs ≡ drop ahead fates → items' ≡ items ++ met_items fs (items_of g name) → count + start ≡ length items' → v' ≡ record v { start = start; length = count }
        → Calling (with_value now name v') (next_key (with_value now name v') name) items' (ahead + v.length)
    calling_step v v' start count fs items' found start_is fates_are is count_is made =
        let mine = items_there g (met_blocks fates) (met_names fates) now name items c.front rules at in
        let new : met_items fs (items_of g name) ≡ met_items (drop (length (items_of_blocks c.front)) fates) at.block.items =
        ap (λ d. met_items d (items_of g name)) (fates_are ∙ ap (λ k. drop k fates) c.ahead_is) ∙ ap (λ is. met_items (drop (length (items_of_blocks c.front)) fates) is) mine in
        let size : count ≡ length (met_items (drop (length (items_of_blocks c.front)) fates) at.block.items) =
        omega (arith, count_is, start_is, ap (λ (xs : List Item). length xs) is, length-append items (met_items fs (items_of g name)), ap (λ (xs : List Item). length xs) new) in
        record {
          front = c.front ++ at.block ∷ [];
          walk =
              copies_step g (met_blocks fates) (met_names fates) now name items c.front rules at v v' start count (met_items (drop (length (items_of_blocks c.front)) fates) at.block.items) items' (met_append fates c.front at.block) found start_is
              (is ∙ ap (λ xs. items ++ xs) new) size made;
          ahead_is =
              omega (
                arith,
                c.ahead_is,
                slot_size v found,
                ap (λ (xs : List Item). length xs) mine,
                ap (λ (xs : List Item). length xs) (items_of_blocks-append c.front (at.block ∷ [])),
                length-append (items_of_blocks c.front) (at.block.items ++ []),
                ap (λ (xs : List Item). length xs) (append-nil at.block.items),
              );
        }

  -- the items so far are no more than those ahead
  pub calling_few : (now : List (ℕ × Slot)) (place : Option ℕ) (items : List Item) (ahead : ℕ) → Calling now place items ahead → length items ≤ ahead
  calling_few now place items ahead c = omega (arith, c.ahead_is, ap (λ (xs : List Item). length xs) c.walk.items_are, met_blocks_fewer fates c.front)

  pub calling_all : (now : List (ℕ × Slot)) (items : List Item) (ahead : ℕ) → Calling now None items ahead → Copied g (met_blocks fates) (met_names fates) now items
  calling_all now items ahead c = copies_all g (met_blocks fates) (met_names fates) now items c.front c.walk

-- THE FIELDS

length-met_blocks : (fates : List ItemFate) (bs : List Block) → length (met_blocks fates bs) ≡ length bs
length-met_blocks fates [] = refl
length-met_blocks fates (b ∷ bs) = ap suc (length-met_blocks (drop (length b.items) fates) bs)

pub calls_show : (new : Inside) (fates : List ItemFate) (g : Graph) (front : List Item)
    → IsGraph (with_calls fates g) → length (items_of_blocks g.blocks) + length (items_of_bodies g.procedures) < 2 ^ 29 → length g.blocks + new.slots.spare < 2 ^ 29 → length g.procedures < 2 ^ 29
    → new.slots.entries ≡ slots_from 0 (with_calls fates g).blocks
    → front ≡ items_of_blocks (with_calls fates g).blocks → new.items.items ≡ front ++ items_of_bodies g.procedures
    → new.blocks_end ≡ length front → new.gaps ≡ 0 → new.loose.free ≡ None
    → new.entry ≡ g.entry → new.code_words.items ≡ g.code_words
    → new.bodies.items ≡ bodies_from 0 g.procedures
    → new.item_room ≡ length new.items.items → new.body_room ≡ length new.bodies.items
    → Shows new (with_calls fates g)
calls_show new fates g front rules few small procedures slots blocks items blocks_end gaps order entry words bodies item_room body_room =
    let all = items ∙ ap (λ is. is ++ items_of_bodies g.procedures) blocks in
    shows new (with_calls fates g)
    (record {
      slots = slots;
      items = all;
      blocks_end = blocks_end ∙ ap (λ (is : List Item). length is) blocks;
      gaps = gaps;
      order = order;
      entry = entry;
      code_words = words;
      bodies = bodies;
    })
    rules
    (record {
      items = omega (arith, item_room);
      item_room = omega (arith, item_room, new.items.ok.0, new.items.ok.1);
      bodies = omega (arith, body_room);
      body_room = omega (arith, body_room, new.bodies.ok.0, new.bodies.ok.1);
    })
    (record {
      blocks = omega (arith, small, ap (λ es. length es) slots, length-slots_from 0 (with_calls fates g).blocks, length-met_blocks fates g.blocks);
      item_room = omega (arith, item_room, few, ap (λ (is : List Item). length is) all, met_blocks_fewer fates g.blocks, length-append (items_of_blocks (met_blocks fates g.blocks)) (items_of_bodies g.procedures));
      body_room = omega (arith, body_room, procedures, ap (λ bs. length bs) bodies, length-bodies_from 0 g.procedures);
    })

-- the same of a copy of fields that are sound
pub copy_shows : (old new : Inside) (v : GraphAndRoom) (fates : List ItemFate) (front : List Item)
    → shown old ≡ v → IsSound old → IsGraph (with_calls fates v.graph)
    → new.slots.spare ≡ old.slots.spare → new.slots.entries ≡ slots_from 0 (with_calls fates v.graph).blocks
    → front ≡ items_of_blocks (with_calls fates v.graph).blocks → new.items.items ≡ front ++ drop old.blocks_end old.items.items
    → new.blocks_end ≡ length front → new.gaps ≡ 0 → new.loose.free ≡ None
    → new.entry ≡ old.entry → new.code_words.items ≡ old.code_words.items → new.bodies.items ≡ old.bodies.items
    → new.item_room ≡ length new.items.items → new.body_room ≡ length new.bodies.items
    → Shows new (with_calls fates v.graph)
copy_shows old new v fates front view sound rules spare slots blocks items blocks_end gaps order entry words bodies item_room body_room =
    let g = v.graph in
    let small : IsSmall (total_of v) = subst (λ (w : GraphAndRoom). IsSmall (total_of w)) view sound.small in
    let behind : drop old.blocks_end old.items.items ≡ items_of_bodies v.graph.procedures = sound.behind ∙ ap (λ (w : GraphAndRoom). items_of_bodies w.graph.procedures) view in
    let all : length (all_items v.graph) ≡ length (items_of_blocks v.graph.blocks) + length (items_of_bodies v.graph.procedures) = length-append (items_of_blocks v.graph.blocks) (items_of_bodies v.graph.procedures) in
    calls_show new fates v.graph front rules (omega (arith, small.items, all)) (omega (arith, small.blocks, spare, ap (λ (w : GraphAndRoom). w.spare.blocks) view)) (omega (arith, small.procedures)) slots blocks
    (items ∙ ap (λ is. front ++ is) behind) blocks_end gaps order (entry ∙ ap (λ (w : GraphAndRoom). w.graph.entry) view) (words ∙ ap (λ (w : GraphAndRoom). w.graph.code_words) view)
    (bodies ∙ sound.bodies ∙ ap (λ (w : GraphAndRoom). bodies_from 0 w.graph.procedures) view) item_room body_room
