-- Slots that are named by their positions.
use Rattle.std.proofs.Common.{◌≡◌, ℕ, suc, ◌+◌, ◌<◌, ◌↔◌, None, ◌^◌, ◌==◌, List, [], ◌∷◌, ◌++◌, map, length, Option, Some, IsSome, vec_capacity, inl, inr, refl, sym, ap, ◌∙◌, subst, arith, append_assoc}
use Rattle.std.specs.List.{All, AllByRecursion}
use Rattle.std.specs.Option.{unwrap_or}
use Rattle.std.proofs.lemmas.Bool.{cases_Bool}
use Rattle.std.proofs.lemmas.List.{length-map}
use Rattle.std.proofs.lemmas.List.Elements.{All-head, All-tail, All-weaker}
use Rattle.sq_arena.specs.Entries.{HasDistinctKeys, ContainsKey, keys, values, at_positions, value_of, before, behind, starting_at, with_value, first_key, next_key}
use Rattle.sq_arena.proofs.EntriesLemmas.{starting_at-behind}
use Rattle.sq_arena.proofs.Positions.{length-at_positions}
use Rattle.sq_graph.specs.declared.item.Item.{Item}
use Rattle.sq_graph.specs.declared.slot.Slot.{Slot}
use Rattle.sq_graph.specs.declared.graph.Graph.TheInside.{Inside}
use Rattle.sq_graph.specs.Graph.{Block}
use Rattle.sq_graph.specs.Blocks.{named, HasBlock, items_of_blocks, all_items}
use Rattle.sq_graph.specs.Uses.{term_uses, terms_uses, items_uses, code_word_uses, uses}
use Rattle.sq_graph.specs.Renames.{retargeted_item, retargeted_items, retargeted_term, retargeted_words, renamed_block, renamed}
use Rattle.sq_graph.specs.Parts.{names_of}
use Rattle.sq_graph.specs.Slotted.{number_in, position_in, slotted}
use Rattle.sq_graph.specs.Cursor.{IsPlace, ahead_of, rest_from, retargeted_slots, slot_uses}
use Rattle.sq_graph.specs.Numbered.{AreNumbered, with_positions}
use Rattle.sq_graph.specs.CanonicalSlots.{start_of}
use Rattle.sq_graph.specs.Slots.{slots_from}
use Rattle.sq_graph.specs.Layout.{graph_of, Holds}
use Rattle.sq_graph.specs.Packed.{blocks_of}
use Rattle.sq_graph.proofs.Eachs.{All-left, All-right}
use Rattle.sq_graph.proofs.CursorLaws.{steps, from_first, next_in}
use Rattle.sq_graph.proofs.SlotWalks.{started}
use Rattle.sq_graph.proofs.SlotReads.{has_slot}
use Rattle.sq_graph.proofs.Held.{Shows, shows}
use Rattle.sq_graph.proofs.Tight.{IsTight, limited}
use Rattle.sq_graph.proofs.MapWrites.{bodies_from-mapped}
use Rattle.sq_graph.proofs.RetargetRules.{items_of_blocks-other, all_items-other}
use Rattle.sq_graph.proofs.Renamed.{names_there, renamed_rules}
use Rattle.sq_graph.proofs.Slotting.{positions_numbered, positions_apart, renamed_by_same, named_by_positions}

-- THE LOOP OVER THE SLOTS

-- what is left to do makes the goal
pub record Numbers (now : List (ℕ × Slot)) (place : Option ℕ) (position : ℕ) (goal : List (ℕ × Slot)) : Type 0 where
  pub is_place : IsPlace now place
  pub distinct : HasDistinctKeys now
  pub fits : position + length (rest_from now place) < 2 ^ 32
  pub is : ahead_of now place ++ with_positions position (rest_from now place) ≡ goal

pub numbers_first : (now : List (ℕ × Slot)) → HasDistinctKeys now → length now < 2 ^ 32 → Numbers now (first_key now) 0 (with_positions 0 now)
numbers_first now distinct fits =
    let first = from_first now in
    record {
      is_place = first.0;
      distinct = distinct;
      fits = rw first.1.1 (omega (arith, fits));
      is = (λ i. first.1.0 i ++ with_positions 0 (first.1.1 i));
    }

rest_length : (now : List (ℕ × Slot)) (key : ℕ) (v : Slot) → value_of now key ≡ Some v → length (starting_at now key) ≡ suc (length (behind now key))
rest_length now key v found = ap length (starting_at-behind now key v found)

pub number_fits : (now goal : List (ℕ × Slot)) (key : ℕ) (v : Slot) (position : ℕ) → Numbers now (Some key) position goal → value_of now key ≡ Some v → position + 1 < 2 ^ 32
number_fits now goal key v position walk found = omega (arith, walk.fits, rest_length now key v found)

pub number_step : (now goal : List (ℕ × Slot)) (key : ℕ) (v : Slot) (position : ℕ) → Numbers now (Some key) position goal → value_of now key ≡ Some v → Numbers (with_value now key (started position v)) (next_key (with_value now key (started position v)) key) (position + 1) goal
number_step now goal key v position walk found =
    let st = steps now key v (started position v) walk.distinct found in
    record {
      is_place = st.is_place;
      distinct = st.distinct;
      fits = rw st.rest (omega (arith, walk.fits, rest_length now key v found));
      is =
          ap (λ es. es ++ with_positions (position + 1) (rest_from (with_value now key (started position v)) (next_key (with_value now key (started position v)) key))) st.ahead
          ∙ ap (λ es. (before now key ++ (key, started position v) ∷ []) ++ with_positions (position + 1) es) st.rest
          ∙ append_assoc (before now key) ((key, started position v) ∷ []) (with_positions (position + 1) (behind now key))
          ∙ ap (λ es. before now key ++ with_positions position es) (sym (starting_at-behind now key v found))
          ∙ walk.is;
    }

-- one more value is in the list
pub listed_step : (now : List (ℕ × Slot)) (key : ℕ) (v : Slot) (list : List Slot) → HasDistinctKeys now → value_of now key ≡ Some v → list ++ values (rest_from now (Some key)) ≡ values now → (IsPlace now (next_key now key)) × (((list ++ v ∷ []) ++ values (rest_from now (next_key now key)) ≡ values now) × (length (rest_from now (next_key now key)) < length (rest_from now (Some key))))
listed_step now key v list distinct found is =
    let parts = starting_at-behind now key v found in
    let st = next_in now key v distinct found in (
      st.0,
      (
        ap (λ es. (list ++ v ∷ []) ++ values es) st.1
            ∙ append_assoc list (v ∷ []) (values (behind now key))
            ∙ ap (λ es. list ++ values es) (sym parts)
            ∙ is,
        omega (arith, ap length st.1, rest_length now key v found),
      ),
    )

-- the names from the place on have the numbers from the position on exactly where all have theirs
pub record Counts (now : List (ℕ × Slot)) (place : Option ℕ) (position : ℕ) : Type 0 where
  pub is_place : IsPlace now place
  pub fits : position + length (rest_from now place) < 2 ^ 32
  pub are : AreNumbered (λ n. n) 0 (keys now) ↔ AreNumbered (λ n. n) position (keys (rest_from now place))

pub counts_first : (now : List (ℕ × Slot)) → length now < 2 ^ 32 → Counts now (first_key now) 0
counts_first now fits =
    let first = from_first now in
    record {
      is_place = first.0;
      fits = rw first.1.1 (omega (arith, fits));
      are = rw first.1.1 (λ h. h, λ h. h);
    }

some_value : (o : Option Slot) → IsSome o → (v : Slot) × (o ≡ Some v)
some_value None h = absurd (cc)
some_value (Some v) h = (v, refl)

-- at a key: the rest is it and what stands behind
pub record CountsAt (now : List (ℕ × Slot)) (key position : ℕ) : Type 0 where
  pub fits : position + 1 < 2 ^ 32
  pub shorter : length (rest_from now (next_key now key)) < length (rest_from now (Some key))
  pub apart : (key ≡ position → ⊥) → AreNumbered (λ n. n) 0 (keys now) → ⊥
  pub next : key ≡ position → Counts now (next_key now key) (position + 1)

pub counts_at : (now : List (ℕ × Slot)) (key position : ℕ) → HasDistinctKeys now → Counts now (Some key) position → CountsAt now key position
counts_at now key position distinct walk =
    let v = some_value (value_of now key) walk.is_place in
    let parts = starting_at-behind now key v.0 v.1 in
    let st = next_in now key v.0 distinct v.1 in
    let size = rest_length now key v.0 v.1 in
    let are = rw parts at walk.are in
    record {
      fits = omega (arith, walk.fits, size);
      shorter = omega (arith, ap length st.1, size);
      apart = λ apart all. apart (are.0 all).0;
      next = λ same. record {
        is_place = st.0;
        fits = omega (arith, walk.fits, size, ap length st.1);
        are = rw st.1 (λ h. (are.0 h).1, λ h. are.1 (same, h));
      };
    }

-- NAMES

-- what stands in place of the start of a slot is its position
number_start : (k m n : ℕ) (bs : List Block) → IsSome (value_of (named bs) n) → start_of (with_positions k (slots_from m bs)) n ≡ unwrap_or (number_in (map (λ b. b.name) bs) k n) 0
number_start k m n [] some = absurd (cc)
number_start k m n (b ∷ bs) some =
    elim (cases_Bool (b.name == n)) [
      | inl here ↦ rw here refl
      | inr apart ↦ rw apart (number_start (k + 1) (m + length b.items) n bs (rw apart at some))
    ]

keys-with_positions : (k : ℕ) (es : List (ℕ × Slot)) → keys (with_positions k es) ≡ keys es
keys-with_positions k [] = refl
keys-with_positions k (e ∷ es) = ap (λ ks. e.0 ∷ ks) (keys-with_positions (k + 1) es)

contains-with_positions : (k : ℕ) (es : List (ℕ × Slot)) (name : ℕ) → ContainsKey es name → ContainsKey (with_positions k es) name
contains-with_positions k [] name has = absurd (cc)
contains-with_positions k (e ∷ es) name has =
    elim (cases_Bool (e.0 == name)) [ inl here ↦ rw here refl | inr apart ↦ rw apart (contains-with_positions (k + 1) es name (rw apart at has)) ]

-- slots under their positions, which use these for names, are those of the blocks under other names
slots_named : (f : ℕ → ℕ) (k start : ℕ) (bs : List Block) → AreNumbered f k (map (λ b. b.name) bs) → retargeted_slots f (at_positions k (values (slots_from start bs))) ≡ slots_from start (map (renamed_block f) bs)
slots_named f k start [] are = refl
slots_named f k start (b ∷ bs) are =
    let size : length (retargeted_items f b.items) ≡ length b.items = length-map b.items (retargeted_item f) in
    ap (λ es. (k, record { start = start; length = length b.items; term = retargeted_term f b.term }) ∷ es) (slots_named f (k + 1) (start + length b.items) bs are.1)
    ∙ ap (λ n. (n, record { start = start; length = length b.items; term = retargeted_term f b.term }) ∷ slots_from (start + length b.items) (map (renamed_block f) bs)) (sym are.0)
    ∙ ap (λ n. (f b.name, record { start = start; length = n; term = retargeted_term f b.term }) ∷ slots_from (start + n) (map (renamed_block f) bs)) (sym size)

positions-uses : (k start : ℕ) (bs : List Block) → slot_uses (at_positions k (values (slots_from start bs))) ≡ terms_uses bs
positions-uses k start [] = refl
positions-uses k start (b ∷ bs) = ap (λ us. term_uses b.term ++ us) (positions-uses (k + 1) (start + length b.items) bs)

block_names : (es : List (ℕ × Slot)) (items : List Item) → keys es ≡ map (λ b. b.name) (blocks_of es items)
block_names [] items = refl
block_names (e ∷ es) items = ap (λ ks. e.0 ∷ ks) (block_names es items)

module _ (old : Inside) (tight : IsTight old) where
  -- the slots with their positions
  abbrev pub places : List (ℕ × Slot)
  places = with_positions 0 old.slots.entries

  abbrev pub new_name : ℕ → ℕ
  new_name = start_of places

  there : (name : ℕ) → HasBlock (graph_of old) name → ContainsKey places name
  there name has = contains-with_positions 0 old.slots.entries name (has_slot old name tight.sound has)

  all_used : All (ContainsKey places) (uses (graph_of old))
  all_used = All-weaker (HasBlock (graph_of old)) (ContainsKey places) there (uses (graph_of old)) tight.rules.named_all

  more_used : All (ContainsKey places) (code_word_uses old.code_words.items ++ (terms_uses (graph_of old).blocks ++ items_uses (all_items (graph_of old))))
  more_used = All-tail (ContainsKey places) (graph_of old).entry (code_word_uses old.code_words.items ++ (terms_uses (graph_of old).blocks ++ items_uses (all_items (graph_of old)))) all_used

  behind_words : All (ContainsKey places) (terms_uses (graph_of old).blocks ++ items_uses (all_items (graph_of old)))
  behind_words = All-right (ContainsKey places) (code_word_uses old.code_words.items) (terms_uses (graph_of old).blocks ++ items_uses (all_items (graph_of old))) more_used

  pub terms_known : (entries : List (ℕ × Slot)) → entries ≡ at_positions 0 (values old.slots.entries) → All (ContainsKey places) (slot_uses entries)
  terms_known entries is =
      subst (λ us. All (ContainsKey places) us) (sym (ap slot_uses (is ∙ ap (λ es. at_positions 0 (values es)) tight.holds.slots) ∙ positions-uses 0 0 (graph_of old).blocks))
      (All-left (ContainsKey places) (terms_uses (graph_of old).blocks) (items_uses (all_items (graph_of old))) behind_words)

  pub items_known : All (ContainsKey places) (items_uses old.items.items)
  items_known =
      subst (λ (is : List Item). All (ContainsKey places) (items_uses is)) (sym tight.holds.items)
      (All-right (ContainsKey places) (terms_uses (graph_of old).blocks) (items_uses (all_items (graph_of old))) behind_words)

  pub words_known : All (ContainsKey places) (code_word_uses old.code_words.items)
  words_known = All-left (ContainsKey places) (code_word_uses old.code_words.items) (terms_uses (graph_of old).blocks ++ items_uses (all_items (graph_of old))) more_used

  pub entry_known : ContainsKey places old.entry
  entry_known = All-head (ContainsKey places) old.entry (code_word_uses old.code_words.items ++ (terms_uses (graph_of old).blocks ++ items_uses (all_items (graph_of old)))) all_used

  -- a block's new name is its position
  name_is : (n : ℕ) → HasBlock (graph_of old) n → new_name n ≡ position_in (names_of (graph_of old)) n
  name_is n has = ap (λ es. start_of (with_positions 0 es) n) tight.holds.slots ∙ number_start 0 0 n (graph_of old).blocks has

  -- where each slot stands under its position, they show it already
  pub slotted_already : AreNumbered (λ n. n) 0 (keys old.slots.entries) → slotted (graph_of old) ≡ graph_of old
  slotted_already are =
      named_by_positions (graph_of old) tight.rules (subst (AreNumbered (λ n. n) 0) (block_names old.slots.entries old.items.items) are)

  -- the fields show the slotted graph
  pub slotted_shows : (new : Inside)
      → new.slots.entries ≡ retargeted_slots new_name (at_positions 0 (values old.slots.entries)) → new.slots.spare ≡ old.slots.spare
      → new.items.items ≡ retargeted_items new_name old.items.items → vec_capacity new.items ≡ vec_capacity old.items
      → new.code_words.items ≡ retargeted_words new_name old.code_words.items → new.entry ≡ new_name old.entry
      → new.blocks_end ≡ old.blocks_end → new.gaps ≡ old.gaps → new.loose ≡ old.loose → new.bodies ≡ old.bodies → new.item_room ≡ old.item_room → new.body_room ≡ old.body_room
      → Shows new (slotted (graph_of old))
  slotted_shows new slots spare items capacity words entry blocks_end gaps loose bodies item_room body_room =
      let same : renamed new_name (graph_of old) ≡ slotted (graph_of old) = renamed_by_same new_name (position_in (names_of (graph_of old))) (graph_of old) tight.rules name_is in
      let rules = renamed_rules (position_in (names_of (graph_of old))) (graph_of old) (positions_apart (graph_of old)) tight.rules in
      let limits = limited old tight in
      let counted : length new.items.items ≡ length old.items.items = ap length items ∙ length-map old.items.items (retargeted_item new_name) in
      let count : length new.slots.entries ≡ length old.slots.entries =
      ap length slots ∙ length-map {B = ℕ × Slot} (at_positions 0 (values old.slots.entries)) (λ e. (e.0, record e.1 { term = retargeted_term new_name e.1.term })) ∙ length-at_positions 0 (values old.slots.entries) ∙ length-map {B = Slot} old.slots.entries (λ e. e.1) in
      shows new (slotted (graph_of old))
      (subst (Holds new) same (record {
        slots = slots ∙ ap (λ es. retargeted_slots new_name (at_positions 0 (values es))) tight.holds.slots ∙ slots_named new_name 0 0 (graph_of old).blocks are_numbered;
        items = items ∙ ap (retargeted_items new_name) tight.holds.items ∙ sym (all_items-other new_name (λ b. new_name b.name) (graph_of old));
        blocks_end = blocks_end ∙ tight.holds.blocks_end ∙ sym (length-map (items_of_blocks (graph_of old).blocks) (retargeted_item new_name)) ∙ sym (ap length (items_of_blocks-other new_name (λ b. new_name b.name) (graph_of old).blocks));
        gaps = gaps ∙ tight.holds.gaps;
        order = ap (λ l. l.free) loose ∙ tight.holds.order;
        entry = entry;
        code_words = words;
        bodies = ap (λ (v : _). v.items) bodies ∙ tight.holds.bodies ∙ sym (bodies_from-mapped (retargeted_item new_name) (λ t. t) 0 (graph_of old).procedures);
      }))
      rules
      (record {
        items = omega (arith, counted, tight.room.items, item_room);
        item_room = omega (arith, tight.room.item_room, item_room, capacity);
        bodies = omega (arith, ap (λ bs. length bs.items) bodies, tight.room.bodies, body_room);
        body_room = omega (arith, tight.room.body_room, body_room, ap (λ bs. vec_capacity bs) bodies);
      })
      (record {
        blocks = omega (arith, limits.blocks, spare, count);
        item_room = omega (arith, limits.item_room, item_room);
        body_room = omega (arith, limits.body_room, body_room);
      })
    where
      numbers : (bs : List Block) (k : ℕ) → AllByRecursion (λ b. HasBlock (graph_of old) b.name) bs → AreNumbered (position_in (names_of (graph_of old))) k (map (λ b. b.name) bs) → AreNumbered new_name k (map (λ b. b.name) bs)
      numbers [] k has are = tt
      numbers (b ∷ bs) k has are = (name_is b.name has.0 ∙ are.0, numbers bs (k + 1) has.1 are.1)

      are_numbered : AreNumbered new_name 0 (names_of (graph_of old))
      are_numbered = numbers (graph_of old).blocks 0 (names_there (graph_of old).blocks) (positions_numbered (graph_of old) tight.rules)
