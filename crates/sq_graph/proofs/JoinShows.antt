-- What the fields show once the next slot is joined to a block.
use Rattle.std.proofs.Common.{◌≡◌, ℕ, ◌+◌, ◌≤◌, ◌==◌, true, List, [], ◌∷◌, ◌++◌, length, take, drop, Vec, Global, vec_capacity, Option, None, Some, refl, sym, ap, ◌∙◌, subst, inl, inr, arith, length-append, length-drop}
use Rattle.std.proofs.lemmas.Bool.{cases_Bool, eqb-true}
use Rattle.std.proofs.lemmas.List.{length-take-le, take-append-drop, take-take, drop-take, drop-drop, drop_at}
use Rattle.sq_arena.specs.Arena.{Arena as Listed}
use Rattle.sq_arena.specs.Entries.{value_of, before, behind, next_key}
use Rattle.sq_arena.proofs.EntriesLemmas.{split_at as split_at_key}
use Rattle.sq_graph.specs.declared.item.Item.{Item}
use Rattle.sq_graph.specs.declared.slot.Slot.{Slot}
use Rattle.sq_graph.specs.declared.graph.Graph.TheInside.{Inside}
use Rattle.sq_graph.specs.Graph.{Block}
use Rattle.sq_graph.specs.Cursor.{length_of_slots}
use Rattle.sq_graph.specs.Packed.{EndBy, AreApart, AreDisjoint, AreLaid, Follows, blocks_of}
use Rattle.sq_graph.specs.Rules.{IsGraph}
use Rattle.sq_graph.specs.Operations.{replaced_items, with_next_taken, joined_at, joined_with_next}
use Rattle.sq_graph.specs.CanonicalSlots.{both}
use Rattle.sq_graph.specs.Blocks.{next_of}
use Rattle.sq_graph.specs.Room.{GraphAndRoom}
use Rattle.sq_graph.specs.Layout.{graph_of, shown, IsSound}
use Rattle.sq_graph.proofs.Packing.{later_same, length-replaced_items, ahead_written, upto_written, behind_written}
use Rattle.sq_graph.proofs.SlotPasses.{some_same, IsPair, pair_of, pair_less, length_of_slots-append}
use Rattle.sq_graph.proofs.SlotReads.{slot_fits, next_shows}
use Rattle.sq_graph.proofs.Laid.{Stands, Lies, lies_lower, lies_behind, lies_found, lies_blocks, lies_apart, piece_ahead}
use Rattle.sq_graph.proofs.Strewn.{ends_append, ends_before, ends_behind}
use Rattle.sq_graph.proofs.Disjoint.{disjoint_joined}
use Rattle.sq_graph.proofs.Held.{Shows, Lie, laid, laid_shows, limits_of, in_order, in_no_order, ordered}

-- THE ITEMS

-- the items of the second slot have come down right behind those of the first
pub record ComesDown (xs ys : List Item) (first second : Slot) : Type 0 where
  pub ahead : take (first.start + first.length) ys ≡ take (first.start + first.length) xs
  pub moved : take second.length (drop (first.start + first.length) ys) ≡ take second.length (drop second.start xs)
  pub later : drop (second.start + second.length) ys ≡ drop (second.start + second.length) xs
  pub long : length ys ≡ length xs

pub comes_down : (xs ys : List Item) (first second : Slot) → first.start + first.length ≤ second.start → second.start + second.length ≤ length xs
    → ys ≡ replaced_items xs (first.start + first.length) second.length (take second.length (drop second.start xs)) → ComesDown xs ys first second
comes_down xs ys first second down within is =
    let end = first.start + first.length in
    let by = take second.length (drop second.start xs) in
    let size : length (take second.length (drop second.start xs)) ≡ second.length = length-take-le second.length (drop second.start xs) (omega (arith, within, length-drop second.start xs)) in
    let at : first.start + first.length ≤ length xs = omega (arith, down, within) in
    record {
      ahead = ap (take end) is ∙ ahead_written xs by end end second.length (omega arith) at;
      moved =
          sym (drop-take end second.length ys)
          ∙ ap (drop end) (ap (take (end + second.length)) is ∙ upto_written xs by end second.length at size)
          ∙ drop_at (take end xs) by end (length-take-le end xs at);
      later = ap (drop (second.start + second.length)) is ∙ behind_written xs by end second.length (second.start + second.length) at size (omega (arith, down));
      long = omega (arith, ap (λ zs. length zs) is, length-replaced_items xs by end second.length (omega (arith, down, within)), size);
    }

take_more_items : (m n : ℕ) (xs : List Item) → take (m + n) xs ≡ take m xs ++ take n (drop m xs)
take_more_items m n xs =
    sym (take-append-drop m (take (m + n) xs))
    ∙ ap (λ ys. ys ++ drop m (take (m + n) xs)) (take-take m (m + n) xs (omega arith))
    ∙ ap (λ ys. take m xs ++ ys) (drop-take m n xs)

-- THE BLOCKS

module _ (xs ys : List Item) (name next : ℕ) (first second : Slot) (rest : List (ℕ × Slot)) (end : ℕ) (down : first.start + first.length ≤ second.start) (comes : ComesDown xs ys first second) where
  lies_both : (low : ℕ) (b : Block) (bs : List Block) → Stands xs low (name, first) b → Lies xs (first.start + first.length) ((next, second) ∷ rest) bs end
      → Lies ys low ((name, both first second) ∷ rest) (with_next_taken b bs) end
  lies_both low b [] stands lies = absurd lies
  lies_both low b (c ∷ bs) stands lies =
      let st = lies.0 in (
        record {
          name = stands.name;
          term = st.term;
          counted = omega (arith, stands.counted, st.counted, length-append b.items c.items);
          above = stands.above;
          items = take_more_items first.length second.length (drop first.start ys)
              ∙ ap (λ zs. zs ++ take second.length (drop first.length (drop first.start ys))) (piece_ahead xs ys (first.start + first.length) first.start first.length (omega arith) comes.ahead ∙ stands.items)
              ∙ ap (λ zs. b.items ++ zs) (ap (take second.length) (drop-drop first.length first.start ys) ∙ comes.moved ∙ st.items);
        },
        lies_lower ys (second.start + second.length) (first.start + (first.length + second.length)) rest bs end (omega (arith, down))
            (lies_behind xs ys (second.start + second.length) (second.start + second.length) rest bs end (omega arith) comes.later lies.1),
      )

  -- the slot of the block has the items of both, from where its own start
  lies_joined : (low : ℕ) (es : List (ℕ × Slot)) (bs : List Block) → Lies xs low es bs end → value_of es name ≡ Some first → behind es name ≡ (next, second) ∷ rest
      → Lies ys low (before es name ++ (name, both first second) ∷ rest) (joined_at bs name) end
  lies_joined low [] bs lies found back = absurd (cc)
  lies_joined low (e ∷ es) [] lies found back = absurd lies
  lies_joined low (e ∷ es) (b ∷ bs) lies found back =
      elim (cases_Bool (e.0 == name)) [
        | inl here ↦
            let value : e.1 ≡ first = cc (rw here at found) in
            let st = lies.0 in
            let too : (b.name == name) ≡ true = ap (λ k. k == name) (sym st.name) ∙ here in
            let stands : Stands xs low (name, first) b = record {
              name = sym (eqb-true e.0 name here) ∙ st.name;
              term = ap (λ s. s.term) (sym value) ∙ st.term;
              counted = ap (λ s. s.length) (sym value) ∙ st.counted;
              above = omega (arith, st.above, ap (λ s. s.start) value);
              items = ap (λ s. take s.length (drop s.start xs)) (sym value) ∙ st.items;
            } in
            rw (here, too) (lies_both low b bs stands (rw (value, (rw here at back)) at lies.1))
        | inr apart ↦
            let st = lies.0 in
            let too = ap (λ k. k == name) (sym st.name) ∙ apart in
            let found' = rw apart at found in
            let fits = lies_found xs (e.1.start + e.1.length) es bs end name first lies.1 found' in
            rw (apart, too) (
              record {
                name = st.name;
                term = st.term;
                counted = st.counted;
                above = st.above;
                items = piece_ahead xs ys (first.start + first.length) e.1.start e.1.length (omega (arith, fits)) comes.ahead ∙ st.items;
              },
              lies_joined (e.1.start + e.1.length) es bs lies.1 found' (rw apart at back),
            )
      ]

-- THE FIELDS

apart_next : (es : List (ℕ × Slot)) (low end name next : ℕ) (first second : Slot) (rest : List (ℕ × Slot)) → AreApart es low end → value_of es name ≡ Some first → behind es name ≡ (next, second) ∷ rest → first.start + first.length ≤ second.start
apart_next [] low end name next first second rest apart found back = absurd (cc)
apart_next (e ∷ es) low end name next first second rest apart found back =
    elim (cases_Bool (e.0 == name)) [
      | inl here ↦
          let value : e.1 ≡ first = cc (rw here at found) in
          let there = rw (value, (rw here at back)) at apart.1 in
          there.0
      | inr elsewhere ↦ apart_next es (e.1.start + e.1.length) end name next first second rest apart.1 (rw elsewhere at found) (rw elsewhere at back)
    ]

-- the slots of a block and of the next one
pub record AreNext (inside : Inside) (name : ℕ) (first : Slot) (next : ℕ) (second : Slot) : Type 0 where
  pub found : value_of inside.slots.entries name ≡ Some first
  pub found_next : value_of inside.slots.entries next ≡ Some second
  pub pair : IsPair inside.slots.entries name first next
  pub back : behind inside.slots.entries name ≡ (next, second) ∷ pair.rest
  pub down : first.start + first.length ≤ second.start
  pub fits : second.start + second.length ≤ inside.blocks_end
  pub within : second.start + second.length ≤ length inside.items.items
  pub follow : (free : ℕ) → inside.loose.free ≡ Some free → first.start + first.length ≡ second.start

-- the next block stays the next one
pub still_next : (old now : Inside) (v : GraphAndRoom) (name next : ℕ) → shown old ≡ v → shown now ≡ v → next_key old.slots.entries name ≡ Some next → next_key now.slots.entries name ≡ Some next
still_next old now v name next old_is now_is next_is =
    next_shows now name ∙ ap (λ w. next_of w.graph name) (now_is ∙ sym old_is) ∙ sym (next_shows old name) ∙ next_is

comes_down_from : (inside : Inside) (name : ℕ) (first : Slot) (next : ℕ) (second : Slot) (rest : List (ℕ × Slot)) (o : Option ℕ) → inside.loose.free ≡ o → IsSound inside → value_of inside.slots.entries name ≡ Some first → behind inside.slots.entries name ≡ (next, second) ∷ rest
    → ((free : ℕ) → inside.loose.free ≡ Some free → first.start + first.length ≡ second.start) → first.start + first.length ≤ second.start
comes_down_from inside name first next second rest None order sound found back follow =
    apart_next inside.slots.entries 0 inside.blocks_end name next first second rest
    (subst (λ (o : Option ℕ). AreLaid inside.slots.entries inside.blocks_end o (vec_capacity inside.loose.scratch)) order sound.gaps.lie) found back
comes_down_from inside name first next second rest (Some free) loose sound found back follow = omega (arith, follow free loose)

pub are_next : (inside : Inside) (name : ℕ) (first : Slot) (next : ℕ) (second : Slot) → IsSound inside → value_of inside.slots.entries name ≡ Some first → next_key inside.slots.entries name ≡ Some next → value_of inside.slots.entries next ≡ Some second → ((free : ℕ) → inside.loose.free ≡ Some free → Follows inside.slots.entries name next) → AreNext inside name first next second
are_next inside name first next second sound found next_is found_next follows =
    let pair = pair_of inside.slots.entries name first next sound.gaps.distinct found next_is in
    let same = some_same pair.value second (sym pair.at.found ∙ found_next) in
    let back : behind inside.slots.entries name ≡ (next, second) ∷ pair.rest = pair.behind_is ∙ ap (λ s. (next, s) ∷ pair.rest) same in
    let fits = slot_fits inside next second sound found_next in
    let follow : (free : ℕ) → inside.loose.free ≡ Some free → first.start + first.length ≡ second.start = λ free loose. follows free loose first second found found_next in
    record {
      found = found;
      found_next = found_next;
      pair = pair;
      back = back;
      down = comes_down_from inside name first next second pair.rest inside.loose.free refl sound found back follow;
      fits = fits;
      within = omega (arith, fits, sound.gaps.within);
      follow = follow;
    }

-- items that come down no way stay
stay : (xs ys : List Item) (first second : Slot) → first.start + first.length ≡ second.start → ComesDown xs ys first second → ys ≡ xs
stay xs ys first second follow comes =
    let mid = first.start + first.length in
    let n = second.length in
    let place : second.start ≡ first.start + first.length = sym follow in
    let last : second.start + second.length ≡ first.start + first.length + second.length = omega (arith, follow) in
    let upto : take (mid + n) ys ≡ take (mid + n) xs =
    take_more_items mid n ys
    ∙ (λ i. comes.ahead i ++ comes.moved i)
    ∙ ap (λ k. take mid xs ++ take n (drop k xs)) place
    ∙ sym (take_more_items mid n xs) in
    let later : drop (mid + n) ys ≡ drop (mid + n) xs = ap (λ k. drop k ys) (sym last) ∙ comes.later ∙ ap (λ k. drop k xs) last in
    sym (take-append-drop (mid + n) ys) ∙ (λ i. upto i ++ later i) ∙ take-append-drop (mid + n) xs

module _ (xs : List Item) (name next : ℕ) (first second : Slot) (rest : List (ℕ × Slot)) (follow : first.start + first.length ≡ second.start) where
  -- the slot of the block has the items of both
  strewn_joined : (es : List (ℕ × Slot)) → value_of es name ≡ Some first → behind es name ≡ (next, second) ∷ rest
      → blocks_of (before es name ++ (name, both first second) ∷ rest) xs ≡ joined_at (blocks_of es xs) name
  strewn_joined [] found back = absurd (cc)
  strewn_joined (e ∷ es) found back =
      elim (cases_Bool (e.0 == name)) [
        | inl here ↦
            let value : e.1 ≡ first = cc (rw here at found) in
            let key : e.0 ≡ name = eqb-true e.0 name here in
            let parts : es ≡ (next, second) ∷ rest = rw here at back in
            let pieces : take (first.length + second.length) (drop first.start xs) ≡ take first.length (drop first.start xs) ++ take second.length (drop second.start xs) =
            take_more_items first.length second.length (drop first.start xs)
            ∙ ap (λ ys. take first.length (drop first.start xs) ++ take second.length ys) (drop-drop first.length first.start xs ∙ ap (λ k. drop k xs) follow) in
            let taken : record { name = name; items = take (first.length + second.length) (drop first.start xs); term = second.term } ∷ blocks_of rest xs
            ≡ with_next_taken (record { name = name; items = take first.length (drop first.start xs); term = first.term }) (blocks_of ((next, second) ∷ rest) xs) =
            ap (λ ys. record { name = name; items = ys; term = second.term } ∷ blocks_of rest xs) pieces in
            rw here
            (taken
            ∙ ap (λ fs. with_next_taken (record { name = name; items = take first.length (drop first.start xs); term = first.term }) (blocks_of fs xs)) (sym parts)
            ∙ (λ i. with_next_taken (record { name = sym key i; items = take (sym value i).length (drop (sym value i).start xs); term = (sym value i).term }) (blocks_of es xs)))
        | inr apart ↦
            rw apart (ap (λ (bs : List Block). record { name = e.0; items = take e.1.length (drop e.1.start xs); term = e.1.term } ∷ bs) (strewn_joined es (rw apart at found) (rw apart at back)))
      ]

-- how the blocks lie then
joined_lie : (inside : Inside) (name : ℕ) (first : Slot) (next : ℕ) (second : Slot) (slots : Listed Slot) (items : Vec Item Global) (o : Option ℕ) → inside.loose.free ≡ o → IsSound inside → (two : AreNext inside name first next second)
    → slots.entries ≡ before inside.slots.entries name ++ (name, both first second) ∷ two.pair.rest → length_of_slots slots.entries ≤ length_of_slots inside.slots.entries
    → ComesDown inside.items.items items.items first second → Lie (record inside { slots = slots; items = items }) (joined_at (graph_of inside).blocks name)
joined_lie inside name first next second slots items None order sound two parts less comes =
    let new : Inside = record inside { slots = slots; items = items } in
    let bs = joined_at (graph_of inside).blocks name in
    let lies = lies_joined inside.items.items items.items name next first second two.pair.rest inside.blocks_end two.down comes 0 inside.slots.entries (graph_of inside).blocks (in_order inside sound order) two.found two.back in
    let now : Lies items.items 0 slots.entries (joined_at (graph_of inside).blocks name) inside.blocks_end = rw parts lies in
    record {
      blocks = lies_blocks items.items 0 slots.entries bs inside.blocks_end now;
      lie = ordered new order (lies_apart items.items 0 slots.entries bs inside.blocks_end now);
    }
joined_lie inside name first next second slots items (Some free) loose sound two parts less comes =
    let es = inside.slots.entries in
    let xs = inside.items.items in
    let follow = two.follow free loose in
    let lie = in_no_order inside free sound loose in
    let behind_it : EndBy ((next, second) ∷ two.pair.rest) free = subst (λ (fs : List (ℕ × Slot)). EndBy fs free) two.back (ends_behind es name free lie.0) in
    let last : first.start + (first.length + second.length) ≤ free = omega (arith, behind_it.0, follow) in
    let ends : EndBy slots.entries free = rw parts (ends_append (before es name) ((name, both first second) ∷ two.pair.rest) free (ends_before es name free lie.0) (last, behind_it.1)) in
    let disjoint : AreDisjoint slots.entries = rw parts (disjoint_joined es name next first second two.pair sound.gaps.distinct two.found two.found_next two.back follow lie.1.1.1) in
    let now : AreLaid slots.entries inside.blocks_end (Some free) (vec_capacity inside.loose.scratch) = (ends, (lie.1.0, (omega (arith, lie.1.1.0, less), disjoint))) in
    record {
      blocks = ap (λ ys. blocks_of slots.entries ys) (stay xs items.items first second follow comes) ∙ ap (λ fs. blocks_of fs xs) parts ∙ strewn_joined xs name next first second two.pair.rest follow es two.found two.back;
      lie = subst (λ (o : Option ℕ). AreLaid slots.entries inside.blocks_end o (vec_capacity inside.loose.scratch)) (sym loose) now;
    }

pub join_shows : (inside : Inside) (name : ℕ) (first : Slot) (next : ℕ) (second : Slot) (slots : Listed Slot) (items : Vec Item Global) → IsSound inside → (two : AreNext inside name first next second)
    → slots.entries ≡ before inside.slots.entries name ++ (name, both first second) ∷ behind inside.slots.entries next → slots.spare ≡ inside.slots.spare + 1
    → ComesDown inside.items.items items.items first second → vec_capacity items ≡ vec_capacity inside.items
    → IsGraph (joined_with_next (graph_of inside) name) → Shows (record inside { slots = slots; items = items }) (joined_with_next (graph_of inside) name)
join_shows inside name first next second slots items sound two entries spare comes capacity rules =
    let es = inside.slots.entries in
    let g = graph_of inside in
    let lays = laid inside sound in
    let limits = limits_of inside sound in
    let less = pair_less es slots.entries name first next second two.found two.pair entries in
    let parts : slots.entries ≡ before inside.slots.entries name ++ (name, both first second) ∷ two.pair.rest = entries ∙ ap (λ back. before es name ++ (name, both first second) ∷ back) two.pair.at.behind_is in
    let was : length_of_slots inside.slots.entries ≡ length_of_slots (before inside.slots.entries name) + (first.length + (second.length + length_of_slots two.pair.rest)) =
    ap length_of_slots (split_at_key es name first two.found)
    ∙ length_of_slots-append (before es name) ((name, first) ∷ behind es name)
    ∙ ap (λ back. length_of_slots (before es name) + (first.length + length_of_slots back)) two.back in
    let now = ap length_of_slots parts ∙ length_of_slots-append (before es name) ((name, both first second) ∷ two.pair.rest) in
    let now_lie = joined_lie inside name first next second slots items inside.loose.free refl sound two parts (omega (arith, was, now)) comes in
    laid_shows (record inside { slots = slots; items = items }) (joined_with_next g name)
    (record {
      blocks = now_lie.blocks;
      lie = now_lie.lie;
      within = omega (arith, lays.within, comes.long);
      counted = omega (arith, lays.counted, was, now);
      behind = later_same inside.items.items items.items (second.start + second.length) inside.blocks_end two.fits comes.later ∙ lays.behind;
      entry = refl;
      code_words = refl;
      bodies = lays.bodies;
    })
    rules
    (record {
      items = omega (arith, comes.long, sound.room.items);
      item_room = omega (arith, capacity, sound.room.item_room);
      bodies = sound.room.bodies;
      body_room = sound.room.body_room;
    })
    (record {
      blocks = omega (arith, less, spare, limits.blocks);
      item_room = limits.item_room;
      body_room = limits.body_room;
    })
