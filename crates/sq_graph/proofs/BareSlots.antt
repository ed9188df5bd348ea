-- Slots before and after the bare ones go.
use Rattle.std.proofs.Common.{◌≡◌, ℕ, suc, ◌<◌, ◌==◌, ◌||◌, Bool, true, false, if◌then◌else◌, List, [], ◌∷◌, ◌++◌, length, Option, None, Some, is_some, refl, sym, ap, ◌∙◌, inl, inr}
use mathlib.Core.Path.{fun_ext}
use Rattle.std.specs.List.{All}
use Rattle.std.proofs.lemmas.List.{length-map}
use Rattle.std.proofs.lemmas.List.Elements.{All-weaker}
use Rattle.std.proofs.lemmas.Bool.{cases_Bool, eqb-true}
use Rattle.sq_arena.specs.Entries.{keys, HasDistinctKeys, value_of, ContainsKey, with_value, previous_key}
use Rattle.sq_graph.specs.declared.slot.Slot.{Slot}
use Rattle.sq_graph.specs.Uses.{term_uses}
use Rattle.sq_graph.specs.Renames.{retargeted_term}
use Rattle.sq_graph.specs.Cursor.{slot_uses, retargeted_slots}
use Rattle.sq_graph.specs.Aims.{restarted}
use Rattle.sq_graph.specs.CanonicalSlots.{is_bare_slot, has_bare, cleared, aim, aimed, start_of, passed_slots, full_slots}
use Rattle.sq_graph.proofs.CursorLaws.{distinct-with_value}
use Rattle.sq_graph.proofs.BackWalks.{no_last, IsDoneBehind, next_done, next_value, next_written, one_done, one_less, up_to}
use Rattle.sq_graph.proofs.SlotPasses.{start_of-retargeted}
use Rattle.sq_graph.proofs.BlockPasses.{keys-retargeted}
use Rattle.sq_graph.proofs.Bypassing.{term_same}

-- the slots behind the place have no mark, and `bare` tells whether one of them is bare
pub record IsClearedBehind (old now : List (ℕ × Slot)) (place : Option ℕ) (bare : Bool) : Type 0 where
  pub walk : IsDoneBehind cleared old now place
  pub bare_is : bare ≡ has_bare walk.back

module _ (old now new : List (ℕ × Slot)) (name : ℕ) (place : Option ℕ) (bare : Bool) (slot : Slot) (done : IsClearedBehind old now (Some name) bare) (found : value_of now name ≡ Some slot) (new_is : new ≡ with_value now name (record slot { start = 0 })) (place_is : place ≡ previous_key now name) where
  clear_is : new ≡ (next_done cleared old now name done.walk).lead ++ cleared ((name, (next_done cleared old now name done.walk).value) ∷ done.walk.back)
  clear_is =
      let next = next_done cleared old now name done.walk in
      new_is
      ∙ next_written cleared old now name slot (record slot { start = 0 }) next found
      ∙ ap (λ s. next.lead ++ (name, record s { start = 0 }) ∷ cleared done.walk.back) (sym (next_value cleared old now name slot next found))

  clear_distinct : HasDistinctKeys new
  clear_distinct = rw new_is (distinct-with_value now name (record slot { start = 0 }) done.walk.distinct)

  pub clear_done : IsClearedBehind old new place (bare || is_bare_slot slot)
  clear_done =
      let next = next_done cleared old now name done.walk in
      record {
        walk = one_done cleared old now new name place next clear_is clear_distinct place_is;
        bare_is = ap (λ s. bare || is_bare_slot s) (sym (next_value cleared old now name slot next found)) ∙ ap (λ b. b || is_bare_slot next.value) done.bare_is;
      }

  pub clear_less : length (up_to new place) < length (up_to now (Some name))
  clear_less = one_less cleared old now new name place (next_done cleared old now name done.walk) clear_is clear_distinct place_is

pub all_seen : (old now : List (ℕ × Slot)) (bare : Bool) → IsClearedBehind old now None bare → bare ≡ has_bare old
all_seen old now bare done =
    done.bare_is ∙ ap has_bare (sym (done.walk.was ∙ ap (λ es. es ++ done.walk.back) (no_last done.walk.front done.walk.place_is)))

-- WHERE USES GO

-- a name that has a slot still has one that says where its uses go
contains-aimed : (es : List (ℕ × Slot)) (name : ℕ) → is_some (value_of (aimed es) name) ≡ is_some (value_of es name)
contains-aimed [] name = refl
contains-aimed (e ∷ es) name =
    elim (cases_Bool (e.0 == name)) [ inl here ↦ rw here refl | inr apart ↦ rw apart (contains-aimed es name) ]

slot_uses-aimed : (es : List (ℕ × Slot)) → slot_uses (aimed es) ≡ slot_uses es
slot_uses-aimed [] = refl
slot_uses-aimed (e ∷ es) = ap (λ us. term_uses e.1.term ++ us) (slot_uses-aimed es)

keys-aimed : (es : List (ℕ × Slot)) → keys (aimed es) ≡ keys es
keys-aimed [] = refl
keys-aimed (e ∷ es) = ap (λ ks. e.0 ∷ ks) (keys-aimed es)

pub distinct_aimed : (es : List (ℕ × Slot)) → HasDistinctKeys es → HasDistinctKeys (aimed es)
distinct_aimed es distinct = rw (keys-aimed es) distinct

pub distinct_passed : (es : List (ℕ × Slot)) → HasDistinctKeys es → HasDistinctKeys (passed_slots es)
distinct_passed es distinct = rw (keys-retargeted (start_of (aimed es)) (aimed es)) (distinct_aimed es distinct)

length-aimed : (es : List (ℕ × Slot)) → length (aimed es) ≡ length es
length-aimed [] = refl
length-aimed (e ∷ es) = ap suc (length-aimed es)

pub length_passed : (es : List (ℕ × Slot)) → length (passed_slots es) ≡ length es
length_passed es =
    length-map {B = ℕ × Slot} (aimed es) (λ e. (e.0, record e.1 { term = retargeted_term (start_of (aimed es)) e.1.term })) ∙ length-aimed es

-- it doesn't matter where slots started before
aim-restarted : (f : ℕ → Slot → ℕ) (es : List (ℕ × Slot)) → aim (restarted f es) ≡ aim es
aim-restarted f [] = refl
aim-restarted f (e ∷ es) = ap (λ n. if is_bare_slot e.1 then n else e.0) (aim-restarted f es)

aimed-restarted : (f : ℕ → Slot → ℕ) (es : List (ℕ × Slot)) → aimed (restarted f es) ≡ aimed es
aimed-restarted f [] = refl
aimed-restarted f (e ∷ es) =
    ap (λ n. (e.0, record e.1 { start = if is_bare_slot e.1 then n else e.0 }) ∷ aimed (restarted f es)) (aim-restarted f es)
    ∙ ap (λ fs. (e.0, record e.1 { start = aim (e ∷ es) }) ∷ fs) (aimed-restarted f es)

pub starts_passed : (es : List (ℕ × Slot)) → start_of (passed_slots es) ≡ start_of (aimed es)
starts_passed es = fun_ext (start_of-retargeted (start_of (aimed es)) [] (aimed es))

pub known_aimed : (es : List (ℕ × Slot)) (entry : ℕ) (words items : List ℕ) → All (ContainsKey es) (entry ∷ (words ++ (slot_uses es ++ items))) → All (ContainsKey (aimed es)) (entry ∷ (words ++ (slot_uses (aimed es) ++ items)))
known_aimed es entry words items known =
    rw (slot_uses-aimed es)
    (All-weaker (ContainsKey es) (ContainsKey (aimed es)) (λ name there. contains-aimed es name ∙ there) (entry ∷ (words ++ (slot_uses es ++ items))) known)

-- the slots after each of these passes
pub aims_are : (old marks aims : List (ℕ × Slot)) → marks ≡ cleared old → aims ≡ aimed marks → aims ≡ aimed old
aims_are old marks aims marks_is aims_is = aims_is ∙ ap aimed marks_is ∙ aimed-restarted (λ name slot. 0) old

pub terms_are : (old marks aims terms : List (ℕ × Slot)) → marks ≡ cleared old → aims ≡ aimed marks → terms ≡ retargeted_slots (start_of aims) aims → terms ≡ passed_slots old
terms_are old marks aims terms marks_is aims_is terms_is =
    terms_is ∙ ap (λ es. retargeted_slots (start_of es) es) (aims_are old marks aims marks_is aims_is)

-- WHERE NONE IS BARE

or_none : (a b : Bool) → (a || b) ≡ false → (a ≡ false) × (b ≡ false)
or_none false b none = (refl, none)
or_none true b none = absurd (cc)

own_start : (es : List (ℕ × Slot)) → has_bare es ≡ false → (name : ℕ) → start_of (aimed es) name ≡ name
own_start [] none name = refl
own_start (e ∷ es) none name =
    let both = or_none (has_bare es) (is_bare_slot e.1) none in
    elim (cases_Bool (e.0 == name)) [
      | inl here ↦ rw (here, both.1) (eqb-true e.0 name here)
      | inr apart ↦ rw apart (own_start es both.0 name)
    ]

-- the uses of each name stay
pub own_starts : (es : List (ℕ × Slot)) → has_bare es ≡ false → start_of (aimed es) ≡ (λ name. name)
own_starts es none = fun_ext (own_start es none)

full_aimed : (es : List (ℕ × Slot)) → has_bare es ≡ false → full_slots (retargeted_slots (λ name. name) (aimed es)) ≡ cleared es
full_aimed [] none = refl
full_aimed (e ∷ es) none =
    let both = or_none (has_bare es) (is_bare_slot e.1) none in
    rw (term_same e.1.term, both.1) (ap (λ fs. (e.0, record e.1 { start = 0 }) ∷ fs) (full_aimed es both.0))

pub none_goes : (es : List (ℕ × Slot)) → has_bare es ≡ false → full_slots (passed_slots es) ≡ cleared es
none_goes es none = ap (λ h. full_slots (retargeted_slots h (aimed es))) (own_starts es none) ∙ full_aimed es none
