-- What the fields show after the passes of `canonical`.
use Rattle.std.proofs.Common.{◌≡◌, ℕ, suc, ◌+◌, ◌-◌, ◌<◌, ◌^◌, List, [], ◌∷◌, ◌++◌, length, vec_capacity, Vec, Global, Option, refl, sym, ap, ◌∙◌, subst, arith, append_assoc, length-append}
use mathlib.Core.Path.{fun_ext}
use Rattle.std.specs.List.{All}
use Rattle.std.proofs.lemmas.List.{length-map}
use Rattle.sq_arena.specs.Arena.{Arena as Listed}
use Rattle.sq_arena.specs.Entries.{HasDistinctKeys, ContainsKey, first_key}
use Rattle.sq_graph.specs.declared.item.Item.{Item}
use Rattle.sq_graph.specs.declared.parts.CodeRef.{CodeRef}
use Rattle.sq_graph.specs.declared.slot.Slot.{Slot}
use Rattle.sq_graph.specs.declared.graph.Graph.TheInside.{Inside}
use Rattle.sq_graph.specs.Graph.{Block, Graph}
use Rattle.sq_graph.specs.Blocks.{items_of_blocks, items_of_bodies, all_items}
use Rattle.sq_graph.specs.Uses.{code_word_uses, terms_uses, items_uses, uses}
use Rattle.sq_graph.specs.Rules.{IsGraph}
use Rattle.sq_graph.specs.Room.{Covers}
use Rattle.sq_graph.specs.Renames.{retargeted_item, retargeted_items, retargeted_words}
use Rattle.sq_graph.specs.Canonical.{joined, canonical_of}
use Rattle.sq_graph.specs.Bypasses.{passed, all_bypassed}
use Rattle.sq_graph.specs.Cursor.{ahead_of, rest_from, retargeted_slots, slot_uses, renumbered, length_of_slots}
use Rattle.sq_graph.specs.CanonicalSlots.{aimed, start_of, passed_slots, full_slots, marked, joined_slots}
use Rattle.sq_graph.specs.Layout.{graph_of, spare_of}
use Rattle.sq_graph.proofs.Sizes.{sizes, same_room}
use Rattle.sq_graph.proofs.CursorLaws.{from_first}
use Rattle.sq_graph.proofs.SlotReads.{has_slot}
use Rattle.sq_graph.proofs.Held.{Shows, shows}
use Rattle.sq_graph.proofs.Tight.{IsTight, limited}
use Rattle.sq_graph.proofs.MapWrites.{bodies_from-mapped, items_of_bodies-mapped}
use Rattle.sq_graph.proofs.Laid.{length-renumbered}
use Rattle.sq_graph.proofs.Numbering.{renumbered_from_first}
use Rattle.sq_graph.proofs.Marks.{marked_more}
use Rattle.sq_graph.proofs.Aiming.{all_used}
use Rattle.sq_graph.proofs.Restarting.{slot_uses-slots}
use Rattle.sq_graph.proofs.BlockPasses.{starts_passed, marked_blocks, full_slots-blocks, keys-marked_blocks, marked-blocks, slot_uses-marked, slot_uses-blocks, length_of_slots-blocks, renumbered-blocks, joined_slots-blocks, used_joins}
use Rattle.sq_graph.proofs.CanonicalLaws.{all_bypassed_is_graph, all_bypassed_items, all_items-joined, joined_is_graph, canonical_is_joined, canonical_length}

module _ (old : Inside) (tight : IsTight old) where
  -- every name that is used has a slot
  pub known : All (ContainsKey old.slots.entries) (old.entry ∷ (code_word_uses old.code_words.items ++ (slot_uses old.slots.entries ++ items_uses old.items.items)))
  known =
      all_used old tight old.slots.entries (λ name has. has_slot old name tight.sound has)
      (ap slot_uses tight.holds.slots ∙ slot_uses-slots 0 (graph_of old).blocks)

  starts_are : start_of (aimed old.slots.entries) ≡ passed (graph_of old).blocks
  starts_are =
      ap (λ es. start_of (aimed es)) tight.holds.slots
      ∙ fun_ext (starts_passed 0 (graph_of old).blocks tight.rules.distinct tight.rules.ends)

  -- the blocks that are left, without a mark
  pub full_are : full_slots (passed_slots old.slots.entries) ≡ marked_blocks [] (all_bypassed (graph_of old)).blocks
  full_are =
      ap (λ h. full_slots (retargeted_slots h (aimed old.slots.entries))) starts_are
      ∙ ap (λ es. full_slots (retargeted_slots (passed (graph_of old).blocks) (aimed es))) tight.holds.slots
      ∙ full_slots-blocks (passed (graph_of old).blocks) 0 (graph_of old).blocks

  pub distinct_full : HasDistinctKeys (full_slots (passed_slots old.slots.entries))
  distinct_full =
      let g = all_bypassed (graph_of old) in
      rw (full_are, keys-marked_blocks [] g.blocks) (all_bypassed_is_graph (graph_of old) tight.rules).distinct

  pub entry_is : start_of (aimed old.slots.entries) old.entry ≡ (all_bypassed (graph_of old)).entry
  entry_is = ap (λ f. f old.entry) starts_are

  pub words_are : retargeted_words (start_of (aimed old.slots.entries)) old.code_words.items ≡ (all_bypassed (graph_of old)).code_words
  words_are = ap (λ f. retargeted_words f old.code_words.items) starts_are

  pub items_are : retargeted_items (start_of (aimed old.slots.entries)) old.items.items ≡ all_items (all_bypassed (graph_of old))
  items_are =
      ap (λ f. retargeted_items f old.items.items) starts_are
      ∙ ap (retargeted_items (passed (graph_of old).blocks)) tight.holds.items
      ∙ sym (all_bypassed_items (graph_of old))

-- the marks of all uses
pub marks_are : (g : Graph) (full one two three four : List (ℕ × Slot)) (entry : ℕ) (words : List CodeRef) (items : List Item)
    → full ≡ marked_blocks [] g.blocks → entry ≡ g.entry → words ≡ g.code_words → items ≡ all_items g
    → one ≡ marked (entry ∷ []) full → two ≡ marked (code_word_uses words) one → three ≡ marked (slot_uses two) two → four ≡ marked (items_uses items) three
    → four ≡ marked_blocks (uses g) g.blocks
marks_are g full one two three four entry words items full_is entry_is words_is items_is one_is two_is three_is four_is =
    let E = entry ∷ [] in
    let W = code_word_uses words in
    let T = terms_uses g.blocks in
    let I = items_uses items in
    let second : two ≡ marked (E ++ W) full = two_is ∙ ap (marked W) one_is ∙ marked_more W E full in
    let terms : slot_uses two ≡ T = ap slot_uses second ∙ slot_uses-marked (E ++ W) full ∙ ap slot_uses full_is ∙ slot_uses-blocks [] g.blocks in
    let third : three ≡ marked ((E ++ W) ++ T) full = three_is ∙ ap (λ us. marked us two) terms ∙ ap (marked T) second ∙ marked_more T (E ++ W) full in
    let all : ((E ++ W) ++ T) ++ I ≡ uses g =
    ap (λ us. entry ∷ us) (append_assoc W T I)
    ∙ ap (λ n. n ∷ (W ++ (T ++ I))) entry_is
    ∙ ap (λ ws. g.entry ∷ (code_word_uses ws ++ (T ++ I))) words_is
    ∙ ap (λ is. g.entry ∷ (code_word_uses g.code_words ++ (T ++ items_uses is))) items_is in
    four_is
    ∙ ap (marked I) third
    ∙ marked_more I ((E ++ W) ++ T) full
    ∙ ap (λ us. marked us full) all
    ∙ ap (marked (uses g)) full_is
    ∙ marked-blocks (uses g) g.blocks

-- the slots that are joined where they have no mark
pub joins_are : (g : Graph) (four five : List (ℕ × Slot)) → IsGraph g → four ≡ marked_blocks (uses g) g.blocks → five ≡ joined_slots four → five ≡ marked_blocks (uses g) (joined g).blocks
joins_are g four five rules four_is five_is =
    five_is
    ∙ ap joined_slots four_is
    ∙ joined_slots-blocks (uses g) g.blocks
    ∙ ap (marked_blocks (uses g)) (used_joins (uses g) g.blocks [] g.blocks refl rules.distinct)

pub distinct_joined : (g : Graph) (five : List (ℕ × Slot)) → IsGraph g → five ≡ marked_blocks (uses g) (joined g).blocks → HasDistinctKeys five
distinct_joined g five rules five_is = rw (five_is, keys-marked_blocks (uses g) (joined g).blocks) (joined_is_graph g rules).distinct

length-marked_blocks : (us : List ℕ) (bs : List Block) → length (marked_blocks us bs) ≡ length bs
length-marked_blocks us [] = refl
length-marked_blocks us (b ∷ bs) = ap suc (length-marked_blocks us bs)

module _ (old : Inside) (tight : IsTight old) where
  -- the items of blocks fit, and those of slots as many
  pub blocks_fit : (us : List ℕ) (es : List (ℕ × Slot)) → es ≡ marked_blocks us (all_bypassed (graph_of old)).blocks → length_of_slots es < 2 ^ 29
  blocks_fit us es is =
      let g = all_bypassed (graph_of old) in
      let size = sizes old tight.sound in
      let same : length (all_items g) ≡ length (all_items (graph_of old)) =
      ap (λ xs. length xs) (all_bypassed_items (graph_of old)) ∙ length-map (all_items (graph_of old)) (retargeted_item (passed (graph_of old).blocks)) in
      omega (arith, ap length_of_slots is, length_of_slots-blocks us g.blocks, length-append (items_of_blocks g.blocks) (items_of_bodies g.procedures), same, size.item_count, size.items, size.item_room)

  pub canonical_shows : (entry : ℕ) (items : Vec Item Global) (words : Vec CodeRef Global) (slots : Listed Slot) (us : List ℕ) (five : List (ℕ × Slot)) (head : Option ℕ)
      → entry ≡ start_of (aimed old.slots.entries) old.entry
      → items.items ≡ retargeted_items (start_of (aimed old.slots.entries)) old.items.items → vec_capacity items ≡ vec_capacity old.items
      → words.items ≡ retargeted_words (start_of (aimed old.slots.entries)) old.code_words.items
      → five ≡ marked_blocks us (joined (all_bypassed (graph_of old))).blocks → head ≡ first_key five
      → slots.entries ≡ ahead_of five head ++ renumbered 0 (rest_from five head)
      → length slots.entries + slots.spare ≡ length old.slots.entries + old.slots.spare
      → Shows (record old { slots = slots; items = items; entry = entry; code_words = words }) (canonical_of (graph_of old))
  canonical_shows entry items words slots us five head entry_is' items_is capacity words_is five_is head_is slots_is total =
      let g = graph_of old in
      let h = joined (all_bypassed g) in
      let new : Inside = record old { slots = slots; items = items; entry = entry; code_words = words } in
      let f = passed g.blocks in
      let rules : IsGraph h = joined_is_graph (all_bypassed g) (all_bypassed_is_graph g tight.rules) in
      let limits = limited old tight in
      let all : items.items ≡ all_items h = items_is ∙ items_are old tight ∙ sym (all_items-joined (all_bypassed g)) in
      let counted : length items.items ≡ length old.items.items = ap (λ is. length is) items_is ∙ length-map old.items.items (retargeted_item (start_of (aimed old.slots.entries))) in
      let bodies : length (items_of_bodies h.procedures) ≡ length (items_of_bodies g.procedures) =
      ap (λ is. length is) (items_of_bodies-mapped (retargeted_item f) (λ t. t) g.procedures) ∙ length-map (items_of_bodies g.procedures) (retargeted_item f) in
      subst (λ (k : Graph). Shows new k) (sym (canonical_is_joined g tight.rules))
      (shows new h
      (record {
        slots = slots_is ∙ renumbered_from_first five head head_is ∙ ap (renumbered 0) five_is ∙ renumbered-blocks us 0 h.blocks;
        items = all;
        blocks_end = omega (arith, tight.holds.blocks_end, counted, bodies, ap (λ is. length is) all, ap (λ is. length is) tight.holds.items, length-append (items_of_blocks h.blocks) (items_of_bodies h.procedures), length-append (items_of_blocks g.blocks) (items_of_bodies g.procedures));
        gaps = tight.holds.gaps;
        order = tight.holds.order;
        entry = entry_is' ∙ entry_is old tight;
        code_words = words_is ∙ words_are old tight;
        bodies = tight.holds.bodies ∙ sym (bodies_from-mapped (retargeted_item f) (λ t. t) 0 g.procedures);
      })
      rules
      (record {
        items = omega (arith, counted, tight.room.items);
        item_room = omega (arith, capacity, tight.room.item_room);
        bodies = tight.room.bodies;
        body_room = tight.room.body_room;
      })
      (record {
        blocks = omega (arith, total, limits.blocks);
        item_room = limits.item_room;
        body_room = limits.body_room;
      }))

  -- a slot that goes is to spare
  pub slots_total : (full marks joins slots : Listed Slot) (head : Option ℕ) (us : List ℕ)
      → full.entries ≡ marked_blocks [] (all_bypassed (graph_of old)).blocks → marks.entries ≡ marked_blocks us (all_bypassed (graph_of old)).blocks
      → length full.entries + full.spare ≡ length old.slots.entries + old.slots.spare → marks.spare ≡ full.spare → length joins.entries + joins.spare ≡ length marks.entries + marks.spare
      → head ≡ first_key joins.entries → slots.entries ≡ ahead_of joins.entries head ++ renumbered 0 (rest_from joins.entries head) → slots.spare ≡ joins.spare
      → length slots.entries + slots.spare ≡ length old.slots.entries + old.slots.spare
  slots_total full marks joins slots head us full_is marks_is full_total marks_spare joins_total head_is slots_is slots_spare =
      let g = all_bypassed (graph_of old) in
      let numbered : length slots.entries ≡ length joins.entries =
      ap (λ es. length es) (slots_is ∙ renumbered_from_first joins.entries head head_is) ∙ length-renumbered 0 joins.entries in
      omega (arith, numbered, full_total, marks_spare, joins_total, slots_spare, ap (λ es. length es) full_is, ap (λ es. length es) marks_is, length-marked_blocks [] g.blocks, length-marked_blocks us g.blocks)

  -- what is spare afterwards
  pub canonical_spare : (new : Inside) → Shows new (canonical_of (graph_of old)) → length new.slots.entries + new.slots.spare ≡ length old.slots.entries + old.slots.spare
      → length new.items.items ≡ length old.items.items → new.item_room ≡ old.item_room → new.gaps ≡ old.gaps → spare_of new ≡ record { blocks = old.slots.spare + length (graph_of old).blocks - length (graph_of new).blocks; items = (spare_of old).items; procedures = new.body_room - length new.bodies.items }
  canonical_spare new shown total items room gaps =
      same_room (spare_of new) (record { blocks = old.slots.spare + length (graph_of old).blocks - length (graph_of new).blocks; items = (spare_of old).items; procedures = new.body_room - length new.bodies.items })
      (omega (arith, total, (sizes old tight.sound).block_count, (sizes new shown.sound).block_count))
      (omega (arith, items, room, gaps))
      refl

  pub canonical_kept : (new : Inside) → Shows new (canonical_of (graph_of old)) → length new.slots.entries + new.slots.spare ≡ length old.slots.entries + old.slots.spare
      → length new.items.items ≡ length old.items.items → new.item_room ≡ old.item_room → new.gaps ≡ old.gaps → new.body_room - length new.bodies.items ≡ (spare_of old).procedures → Covers (spare_of new) (spare_of old)
  canonical_kept new shown total items room gaps procedures =
      record {
        blocks = omega (arith, total, (sizes old tight.sound).block_count, (sizes new shown.sound).block_count, ap (λ h. length h.blocks) shown.is, canonical_length (graph_of old) tight.rules);
        items = omega (arith, items, room, gaps);
        procedures = omega (arith, procedures);
      }

pub length_from_first : (es : List (ℕ × Slot)) (head : Option ℕ) → head ≡ first_key es → length_of_slots (rest_from es head) ≡ length_of_slots es
length_from_first es head is = ap (λ k. length_of_slots (rest_from es k)) is ∙ ap length_of_slots (from_first es).1.1
