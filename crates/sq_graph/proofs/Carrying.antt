-- The items of a block that are carried to the free place, where items lie in no order.
use Rattle.std.proofs.Common.{◌≡◌, ◌≢◌, ℕ, ◌+◌, ◌≤◌, ◌==◌, List, [], ◌∷◌, ◌++◌, length, take, drop, Vec, Global, vec_capacity, Option, None, Some, is_some, refl, sym, ap, ◌∙◌, subst, inl, inr, arith, length-drop}
use Rattle.std.proofs.lemmas.Bool.{cases_Bool, eqb-true}
use Rattle.std.proofs.lemmas.List.{length-take-le, drop-take, drop_at}
use Rattle.sq_arena.specs.Arena.{Arena as Listed}
use Rattle.sq_arena.specs.Entries.{HasDistinctKeys, ContainsKey, value_of, before, behind, with_value, next_key}
use Rattle.sq_arena.proofs.EntriesLemmas.{split_at as split_at_key}
use Rattle.sq_graph.specs.declared.item.Item.{Item}
use Rattle.sq_graph.specs.declared.slot.Slot.{Slot}
use Rattle.sq_graph.specs.declared.loose.Loose.{Loose}
use Rattle.sq_graph.specs.Graph.{Block}
use Rattle.sq_graph.specs.Blocks.{named}
use Rattle.sq_graph.specs.Operations.{replaced_items}
use Rattle.sq_graph.specs.Cursor.{length_of_slots}
use Rattle.sq_graph.specs.Packed.{EndBy, AreDisjoint, AreLaid, blocks_of, HasGaps, KeepsBlocks, Carries, Follows}
use Rattle.sq_graph.proofs.CursorLaws.{value_of-before, with_value-split, distinct-with_value, value_of-with_value}
use Rattle.sq_graph.proofs.Packing.{length-replaced_items, ahead_written, upto_written, behind_written}
use Rattle.sq_graph.proofs.Located.{value_of-at}
use Rattle.sq_graph.proofs.SlotReads.{value_of-blocks}
use Rattle.sq_graph.proofs.SlotPasses.{some_same, pair_of, length_of_slots-append}
use Rattle.sq_graph.proofs.Disjoint.{disjoint_carried}
use Rattle.sq_graph.proofs.Strewn.{ends_raise, ends_append, ends_before, ends_behind, ends_found, blocks_of-append, blocks_ahead}

-- THE BLOCKS STAY

-- the items of the slot have come to the place
record Copied (xs ys : List Item) (slot : Slot) (place end : ℕ) : Type 0 where
  ahead : take place ys ≡ take place xs
  piece : take slot.length (drop place ys) ≡ take slot.length (drop slot.start xs)
  behind : drop end ys ≡ drop end xs
  long : length ys ≡ length xs

copied : (xs ys : List Item) (slot : Slot) (place end : ℕ) → slot.start + slot.length ≤ length xs → place + slot.length ≤ end → end ≤ length xs
    → ys ≡ replaced_items xs place slot.length (take slot.length (drop slot.start xs)) → Copied xs ys slot place end
copied xs ys slot place end there fits within is =
    let by = take slot.length (drop slot.start xs) in
    let size : length (take slot.length (drop slot.start xs)) ≡ slot.length = length-take-le slot.length (drop slot.start xs) (omega (arith, there, length-drop slot.start xs)) in
    let at : place ≤ length xs = omega (arith, fits, within) in
    record {
      ahead = ap (take place) is ∙ ahead_written xs by place place slot.length (omega arith) at;
      piece =
          sym (drop-take place slot.length ys)
          ∙ ap (drop place) (ap (take (place + slot.length)) is ∙ upto_written xs by place slot.length at size)
          ∙ drop_at (take place xs) by place (length-take-le place xs at);
      behind = ap (drop end) is ∙ behind_written xs by place slot.length end at size fits;
      long = omega (arith, ap (λ (zs : List Item). length zs) is, length-replaced_items xs by place slot.length (omega (arith, fits, within)), size);
    }

carried_blocks : (es : List (ℕ × Slot)) (xs ys : List Item) (name : ℕ) (slot : Slot) (place end : ℕ) → EndBy es place → value_of es name ≡ Some slot → Copied xs ys slot place end
    → blocks_of (with_value es name (record slot { start = place })) ys ≡ blocks_of es xs
carried_blocks es xs ys name slot place end ends found copy =
    let front = before es name in
    let back = behind es name in
    let old : Block = record { name = name; items = take slot.length (drop slot.start xs); term = slot.term } in
    ap (λ fs. blocks_of fs ys) (with_value-split es name slot (record slot { start = place }) found)
    ∙ blocks_of-append front ((name, record slot { start = place }) ∷ back) ys
    ∙ ap (λ bs. bs ++ blocks_of ((name, record slot { start = place }) ∷ back) ys) (blocks_ahead front xs ys place (ends_before es name place ends) copy.ahead)
    ∙ ap (λ zs. blocks_of front xs ++ record { name = name; items = zs; term = slot.term } ∷ blocks_of back ys) copy.piece
    ∙ ap (λ bs. blocks_of front xs ++ old ∷ bs) (blocks_ahead back xs ys place (ends_behind es name place ends) copy.ahead)
    ∙ sym (blocks_of-append front ((name, slot) ∷ back) xs)
    ∙ ap (λ fs. blocks_of fs xs) (sym (split_at_key es name slot found))

pub carries_keep : (old slots : Listed Slot) (old_items items : Vec Item Global) (end gaps : ℕ) (was loose : Loose) (name : ℕ) (slot : Slot) (place : ℕ)
    → HasGaps old.entries old_items.items end gaps was → was.free ≡ Some place → value_of old.entries name ≡ Some slot → place + slot.length ≤ end
    → items.items ≡ replaced_items old_items.items place slot.length (take slot.length (drop slot.start old_items.items)) → vec_capacity items ≡ vec_capacity old_items
    → slots.entries ≡ with_value old.entries name (record slot { start = place }) → slots.spare ≡ old.spare
    → loose.free ≡ Some (place + slot.length) → loose.scratch ≡ was.scratch
    → KeepsBlocks old old_items end gaps slots items end gaps loose
carries_keep old slots old_items items end gaps was loose name slot place has free_was found fits is capacity entries spare free_is scratch =
    let es = old.entries in
    let new : Slot = record slot { start = place } in
    let lie : AreLaid old.entries end (Some place) (vec_capacity was.scratch) = subst (λ (o : Option ℕ). AreLaid old.entries end o (vec_capacity was.scratch)) free_was has.lie in
    let there = ends_found es place name slot lie.0 found in
    let copy = copied old_items.items items.items slot place end (omega (arith, there, lie.1.0, has.within)) fits has.within is in
    let parts : slots.entries ≡ before old.entries name ++ (name, record slot { start = place }) ∷ behind old.entries name = entries ∙ with_value-split es name slot (record slot { start = place }) found in
    let size : length_of_slots slots.entries ≡ length_of_slots old.entries =
    ap length_of_slots parts
    ∙ length_of_slots-append (before es name) ((name, record slot { start = place }) ∷ behind es name)
    ∙ sym (length_of_slots-append (before es name) ((name, slot) ∷ behind es name))
    ∙ ap length_of_slots (sym (split_at_key es name slot found)) in
    let ahead : EndBy old.entries (place + slot.length) = ends_raise es place (place + slot.length) (omega arith) lie.0 in
    let ends : EndBy slots.entries (place + slot.length) =
    rw parts (ends_append (before es name) ((name, record slot { start = place }) ∷ behind es name) (place + slot.length) (ends_before es name (place + slot.length) ahead) (omega arith, ends_behind es name (place + slot.length) ahead)) in
    let disjoint : AreDisjoint slots.entries = rw entries (disjoint_carried es name slot new has.distinct found lie.0 lie.1.1.1) in
    let now : AreLaid slots.entries end (Some (place + slot.length)) (vec_capacity loose.scratch) = (ends, (fits, (omega (arith, lie.1.1.0, size, ap (λ v. vec_capacity v) scratch), disjoint))) in
    record {
      gaps =
          record {
            distinct = rw entries (distinct-with_value es name new has.distinct);
            lie = subst (λ (o : Option ℕ). AreLaid slots.entries end o (vec_capacity loose.scratch)) (sym free_is) now;
            within = omega (arith, has.within, copy.long);
            counted = omega (arith, has.counted, size);
          };
      blocks = ap (λ fs. blocks_of fs items.items) entries ∙ carried_blocks es old_items.items items.items name slot place end lie.0 found copy;
      behind = copy.behind;
      fewer = omega arith;
      spare = spare;
      capacity = capacity;
    }

-- ONE BEHIND ANOTHER

value_of-other : (es : List (ℕ × Slot)) (key other : ℕ) (v : Slot) → other ≢ key → value_of (with_value es key v) other ≡ value_of es other
value_of-other [] key other v apart = refl
value_of-other (e ∷ es) key other v apart =
    elim (cases_Bool (e.0 == key)) [
      | inl here ↦
          let same : e.0 ≡ key = eqb-true e.0 key here in
          rw here (elim (cases_Bool (key == other)) [
            | inl there ↦ absurd (apart (sym (eqb-true key other there)))
            | inr aside ↦ rw (aside, ap (λ k. k == other) same ∙ aside) refl
          ])
      | inr elsewhere ↦ rw elsewhere (elim (cases_Bool (e.0 == other)) [ inl there ↦ rw there refl | inr aside ↦ rw aside (value_of-other es key other v apart) ])
    ]

-- a block and the next one are two
pub two_names : (es : List (ℕ × Slot)) (name : ℕ) (first : Slot) (next : ℕ) → HasDistinctKeys es → value_of es name ≡ Some first → next_key es name ≡ Some next → name ≢ next
two_names es name first next distinct found next_is same =
    let pair = pair_of es name first next distinct found next_is in
    let lead : before es next ≡ before es name ++ (name, first) ∷ [] = pair.at.ahead_is in
    let none : value_of (before es name ++ (name, first) ∷ []) name ≡ None = ap (λ fs. value_of fs name) (sym lead) ∙ ap (λ k. value_of (before es next) k) same ∙ value_of-before es next in
    absurd (cc (sym (value_of-at (before es name) [] name first (value_of-before es name)) ∙ none))

-- where the first ended at the free place
pub follows_one : (es new : List (ℕ × Slot)) (name next : ℕ) (first : Slot) (was : Option ℕ) (place free : ℕ) → name ≢ next → value_of es name ≡ Some first → was ≡ Some place → first.start + first.length ≡ place → Carries es new next was free → Follows new name next
follows_one es new name next first was place free apart found was_is ends carries f s found_f found_s =
    let other : value_of new name ≡ value_of es name = ap (λ fs. value_of fs name) carries.entries ∙ value_of-other es next name (record carries.slot { start = carries.place }) apart in
    let same : f ≡ first = some_same f first (sym found_f ∙ other ∙ found) in
    let moved : value_of new next ≡ Some (record carries.slot { start = carries.place }) = ap (λ fs. value_of fs next) carries.entries ∙ value_of-with_value es next carries.slot (record carries.slot { start = carries.place }) carries.found in
    let second : s ≡ record carries.slot { start = carries.place } = some_same s (record carries.slot { start = carries.place }) (sym found_s ∙ moved) in
    let at : place ≡ carries.place = some_equal place carries.place (sym was_is ∙ carries.was_free) in
    omega (arith, ap (λ v. v.start + v.length) same, ends, at, ap (λ v. v.start) second)
  where
    some_equal : (a b : ℕ) → Some a ≡ Some b → a ≡ b
    some_equal a b is = cc

-- where both are carried
pub follows_two : (es mid new : List (ℕ × Slot)) (name next : ℕ) (was middle : Option ℕ) (free : ℕ) → name ≢ next → ((place : ℕ) → middle ≡ Some place → Carries es mid name was place) → Carries mid new next middle free → Follows new name next
follows_two es mid new name next was middle free apart first second =
    let c = first second.place second.was_free in
    let there : value_of mid name ≡ Some (record c.slot { start = c.place }) = ap (λ fs. value_of fs name) c.entries ∙ value_of-with_value es name c.slot (record c.slot { start = c.place }) c.found in
    follows_one mid new name next (record c.slot { start = c.place }) middle second.place free apart there second.was_free (sym c.free_is) second

-- the blocks have the same names
pub keeps_contain : {old new : Listed Slot} {xs ys : Vec Item Global} {end last gaps fewer : ℕ} {loose : Loose} (name : ℕ) → KeepsBlocks old xs end gaps new ys last fewer loose → ContainsKey old.entries name → ContainsKey new.entries name
keeps_contain {old = old} {new = new} {xs = xs} {ys = ys} name keeps there =
    value_of-blocks new.entries ys.items name ∙ ap (λ (bs : List Block). is_some (value_of (named bs) name)) keeps.blocks ∙ sym (value_of-blocks old.entries xs.items name) ∙ there
