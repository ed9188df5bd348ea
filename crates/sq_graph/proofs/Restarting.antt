-- Other starts of slots, which say where the uses of names go.
use Rattle.std.proofs.Common.{◌≡◌, ℕ, ◌+◌, ◌==◌, Bool, true, false, ◌||◌, if◌then◌else◌, List, [], ◌∷◌, ◌++◌, length, get_or, Option, None, Some, is_some, option_to_list, refl, sym, ap, ◌∙◌, inl, inr, append_assoc}
use Rattle.std.specs.Option.{unwrap_or}
use Rattle.std.proofs.lemmas.List.{length-map}
use Rattle.std.proofs.lemmas.Bool.{cases_Bool, eqb-true, eqb-false, eq-eqb, ne_eqb}
use Rattle.sq_arena.specs.Entries.{keys, HasDistinctKeys, value_of, before, behind, with_value, next_key}
use Rattle.sq_arena.proofs.EntriesLemmas.{starting_at-behind}
use Rattle.sq_isa.specs.Registers.{is_among}
use Rattle.sq_graph.specs.declared.slot.Slot.{Slot}
use Rattle.sq_graph.specs.Graph.{Block}
use Rattle.sq_graph.specs.Blocks.{named, block_term}
use Rattle.sq_graph.specs.Uses.{term_uses, terms_uses}
use Rattle.sq_graph.specs.Renames.{retargeted_term}
use Rattle.sq_graph.specs.Cursor.{IsPlace, ahead_of, rest_from, retargeted_slots, slot_uses, renumbered, length_of_slots}
use Rattle.sq_graph.specs.Slots.{slots_from}
use Rattle.sq_graph.specs.CanonicalSlots.{start_of}
use Rattle.sq_graph.specs.Redirected.{named_by}
use Rattle.sq_graph.specs.Aims.{restarted, homed, target_or_start, aimed_each}
use Rattle.sq_graph.proofs.CursorLaws.{steps}
use Rattle.sq_graph.proofs.Kept.{absent_behind}
use Rattle.sq_graph.proofs.Marks.{is_among-append, distinct_rest}
use Rattle.sq_graph.proofs.SlotWalks.{started}

pub slot_uses-slots : (k : ℕ) (bs : List Block) → slot_uses (slots_from k bs) ≡ terms_uses bs
slot_uses-slots k [] = refl
slot_uses-slots k (b ∷ bs) = ap (λ us. term_uses b.term ++ us) (slot_uses-slots (k + length b.items) bs)

-- ANY STARTS

module _ (f : ℕ → Slot → ℕ) where
  pub keys-restarted : (es : List (ℕ × Slot)) → keys (restarted f es) ≡ keys es
  keys-restarted [] = refl
  keys-restarted (e ∷ es) = ap (λ ks. e.0 ∷ ks) (keys-restarted es)

  pub distinct-restarted : (es : List (ℕ × Slot)) → HasDistinctKeys es → HasDistinctKeys (restarted f es)
  distinct-restarted es distinct = rw (keys-restarted es) distinct

  pub contains-restarted : (es : List (ℕ × Slot)) (name : ℕ) → is_some (value_of (restarted f es) name) ≡ is_some (value_of es name)
  contains-restarted [] name = refl
  contains-restarted (e ∷ es) name =
      elim (cases_Bool (e.0 == name)) [ inl here ↦ rw here refl | inr apart ↦ rw apart (contains-restarted es name) ]

  pub slot_uses-restarted : (es : List (ℕ × Slot)) → slot_uses (restarted f es) ≡ slot_uses es
  slot_uses-restarted [] = refl
  slot_uses-restarted (e ∷ es) = ap (λ us. term_uses e.1.term ++ us) (slot_uses-restarted es)

  pub length_of_slots-restarted : (es : List (ℕ × Slot)) → length_of_slots (restarted f es) ≡ length_of_slots es
  length_of_slots-restarted [] = refl
  length_of_slots-restarted (e ∷ es) = ap (λ n. e.1.length + n) (length_of_slots-restarted es)

  pub length-restarted : (es : List (ℕ × Slot)) → length (restarted f es) ≡ length es
  length-restarted es = length-map {B = ℕ × Slot} es (λ e. (e.0, record e.1 { start = f e.0 e.1 }))

  pub renumbered-restarted : (k : ℕ) (es : List (ℕ × Slot)) → renumbered k (restarted f es) ≡ renumbered k es
  renumbered-restarted k [] = refl
  renumbered-restarted k (e ∷ es) = ap (λ fs. (e.0, record e.1 { start = k }) ∷ fs) (renumbered-restarted (k + e.1.length) es)

-- other terms keep the starts that slots have by their lengths
pub renumbered-retargeted : (h : ℕ → ℕ) (k : ℕ) (es : List (ℕ × Slot)) → renumbered k (retargeted_slots h es) ≡ retargeted_slots h (renumbered k es)
renumbered-retargeted h k [] = refl
renumbered-retargeted h k (e ∷ es) =
    ap (λ fs. (e.0, record e.1 { start = k; term = retargeted_term h e.1.term }) ∷ fs) (renumbered-retargeted h (k + e.1.length) es)

pub length_of_slots-retargeted : (h : ℕ → ℕ) (es : List (ℕ × Slot)) → length_of_slots (retargeted_slots h es) ≡ length_of_slots es
length_of_slots-retargeted h [] = refl
length_of_slots-retargeted h (e ∷ es) = ap (λ n. e.1.length + n) (length_of_slots-retargeted h es)

-- EACH ITS OWN NAME

-- what is left to do makes the goal
pub record Homes (now : List (ℕ × Slot)) (place : Option ℕ) (goal : List (ℕ × Slot)) : Type 0 where
  pub is_place : IsPlace now place
  pub distinct : HasDistinctKeys now
  pub is : ahead_of now place ++ homed (rest_from now place) ≡ goal

pub home_step : (now goal : List (ℕ × Slot)) (key : ℕ) (v : Slot) → Homes now (Some key) goal → value_of now key ≡ Some v → Homes (with_value now key (started key v)) (next_key (with_value now key (started key v)) key) goal
home_step now goal key v walk found =
    let st = steps now key v (started key v) walk.distinct found in
    record {
      is_place = st.is_place;
      distinct = st.distinct;
      is =
          ap (λ es. es ++ homed (rest_from (with_value now key (started key v)) (next_key (with_value now key (started key v)) key))) st.ahead
          ∙ ap (λ es. (before now key ++ (key, started key v) ∷ []) ++ homed es) st.rest
          ∙ append_assoc (before now key) ((key, started key v) ∷ []) (homed (behind now key))
          ∙ ap (λ es. before now key ++ homed es) (sym (starting_at-behind now key v found))
          ∙ walk.is;
    }

-- THE TARGETS OF THESE

pub aimed_none : (es : List (ℕ × Slot)) → aimed_each [] es ≡ es
aimed_none [] = refl
aimed_none (e ∷ es) = ap (λ fs. e ∷ fs) (aimed_none es)

first_again : (us : List ℕ) (s : ℕ) → get_or us 0 (get_or us 0 s) ≡ get_or us 0 s
first_again [] s = refl
first_again (u ∷ us) s = refl

either_or_both : (a b : Bool) (us : List ℕ) (s : ℕ) → (if a then get_or us 0 (if b then get_or us 0 s else s) else (if b then get_or us 0 s else s)) ≡ (if b || a then get_or us 0 s else s)
either_or_both true true us s = first_again us s
either_or_both true false us s = refl
either_or_both false true us s = refl
either_or_both false false us s = refl

-- more names are aimed
pub aimed_more : (us vs : List ℕ) (es : List (ℕ × Slot)) → aimed_each us (aimed_each vs es) ≡ aimed_each (vs ++ us) es
aimed_more us vs [] = refl
aimed_more us vs (e ∷ es) =
    ap (λ s. (e.0, record e.1 { start = s }) ∷ aimed_each us (aimed_each vs es))
    (either_or_both (is_among us e.0) (is_among vs e.0) (term_uses e.1.term) e.1.start ∙ ap (λ b. if b then get_or (term_uses e.1.term) 0 e.1.start else e.1.start) (sym (is_among-append vs us e.0)))
    ∙ ap (λ fs. (e.0, record e.1 { start = target_or_start (vs ++ us) e.0 e.1 }) ∷ fs) (aimed_more us vs es)

pub aimed_absent : (name : ℕ) (es : List (ℕ × Slot)) → value_of es name ≡ None → aimed_each (name ∷ []) es ≡ es
aimed_absent name [] none = refl
aimed_absent name (e ∷ es) none =
    elim (cases_Bool (e.0 == name)) [
      | inl here ↦ absurd (cc (rw here at none))
      | inr apart ↦
          let other : (name == e.0) ≡ false = ne_eqb name e.0 (λ same. eqb-false e.0 name apart (sym same)) in
          rw other (ap (λ fs. e ∷ fs) (aimed_absent name es (rw apart at none)))
    ]

abbrev pub aimed_slot : Slot → Slot
aimed_slot slot = record slot { start = get_or (term_uses slot.term) 0 slot.start }

-- a name is aimed by a write to its slot
pub aimed_one : (name : ℕ) (slot : Slot) (es : List (ℕ × Slot)) → HasDistinctKeys es → value_of es name ≡ Some slot → with_value es name (aimed_slot slot) ≡ aimed_each (name ∷ []) es
aimed_one name slot [] distinct found = absurd (cc)
aimed_one name slot (e ∷ es) distinct found =
    elim (cases_Bool (e.0 == name)) [
      | inl here ↦
          let is : e.0 ≡ name = eqb-true e.0 name here in
          let value : Some e.1 ≡ Some slot = rw here at found in
          let same : e.1 ≡ slot = cc in
          let mine : (name == e.0) ≡ true = eq-eqb name e.0 (sym is) in
          let none : value_of es name ≡ None = ap (value_of es) (sym is) ∙ absent_behind e es distinct in
          rw (here, mine)
          (ap (λ k. (k, aimed_slot slot) ∷ es) (sym is)
          ∙ ap (λ s. (e.0, aimed_slot s) ∷ es) (sym same)
          ∙ ap (λ fs. (e.0, aimed_slot e.1) ∷ fs) (sym (aimed_absent name es none)))
      | inr apart ↦
          let other : (name == e.0) ≡ false = ne_eqb name e.0 (λ same. eqb-false e.0 name apart (sym same)) in
          rw (apart, other) (ap (λ fs. e ∷ fs) (aimed_one name slot es (distinct_rest e es distinct) (rw apart at found)))
    ]

-- the block that a term names, or this
pub named_or : (target : Option ℕ) (us : List ℕ) (s : ℕ) → option_to_list target ≡ us → unwrap_or target s ≡ get_or us 0 s
named_or None us s is = ap (λ vs. get_or vs 0 s) is
named_or (Some to) us s is = ap (λ vs. get_or vs 0 s) is

-- WHERE THE USES OF A NAME GO

pub starts_aimed : (blocks : List ℕ) (k : ℕ) (bs : List Block) (name : ℕ) → start_of (aimed_each blocks (homed (slots_from k bs))) name ≡ (if is_among blocks name then named_by name (block_term (value_of (named bs) name)) else name)
starts_aimed blocks k [] name =
    elim (cases_Bool (is_among blocks name)) [ inl listed ↦ rw listed refl | inr other ↦ rw other refl ]
starts_aimed blocks k (b ∷ bs) name =
    elim (cases_Bool (b.name == name)) [
      | inl here ↦ rw here (ap (λ n. if is_among blocks n then get_or (term_uses b.term) 0 n else n) (eqb-true b.name name here))
      | inr apart ↦ rw apart (starts_aimed blocks (k + length b.items) bs name)
    ]
