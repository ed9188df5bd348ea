-- Marks, which stand as the starts of slots.
use Rattle.std.proofs.Common.{◌≡◌, ℕ, ◌+◌, ◌<◌, ◌==◌, Bool, true, false, ◌||◌, if◌then◌else◌, List, [], ◌∷◌, ◌++◌, length, take, get_or, Option, None, Some, refl, sym, ap, ◌∙◌, subst, inl, inr, arith, append_assoc, length-append}
use Rattle.std.specs.List.{flat_map}
use Rattle.std.proofs.lemmas.Bool.{cases_Bool, eqb-true, eqb-false, eq-eqb, ne_eqb}
use Rattle.std.proofs.lemmas.List.{append-nil, map-append, length-map, take_more}
use Rattle.std.proofs.lemmas.List.Concat.{flat_map-append}
use Rattle.std.proofs.Math.Bool.{or_comm}
use Rattle.sq_arena.specs.Entries.{keys, HasDistinctKeys, value_of, with_value, last_key, previous_key}
use Rattle.sq_arena.proofs.EntriesLaws.{distinct_back}
use Rattle.sq_isa.specs.Registers.{is_among}
use Rattle.sq_graph.specs.declared.slot.Slot.{Slot}
use Rattle.sq_graph.specs.declared.parts.CodeRef.{CodeRef}
use Rattle.sq_graph.specs.Uses.{term_uses, code_word_uses}
use Rattle.sq_graph.specs.Cursor.{slot_uses}
use Rattle.sq_graph.specs.CanonicalSlots.{marked_slot, marked}
use Rattle.sq_graph.proofs.Kept.{absent_behind}
use Rattle.sq_graph.proofs.BackWalks.{up_to, last_of, no_last, IsIn, is_in, up_to_last}

or_assoc : (a b c : Bool) → (a || (b || c)) ≡ ((a || b) || c)
or_assoc true b c = refl
or_assoc false b c = refl

pub is_among-append : (xs ys : List ℕ) (n : ℕ) → is_among (xs ++ ys) n ≡ (is_among xs n || is_among ys n)
is_among-append [] ys n = refl
is_among-append (x ∷ xs) ys n = ap (λ b. x == n || b) (is_among-append xs ys n) ∙ or_assoc (x == n) (is_among xs n) (is_among ys n)

pub keys-marked : (us : List ℕ) (es : List (ℕ × Slot)) → keys (marked us es) ≡ keys es
keys-marked us [] = refl
keys-marked us (e ∷ es) = ap (λ ks. e.0 ∷ ks) (keys-marked us es)

pub distinct-marked : (us : List ℕ) (es : List (ℕ × Slot)) → HasDistinctKeys es → HasDistinctKeys (marked us es)
distinct-marked us es distinct = rw (keys-marked us es) distinct

mark_on_mark : (a b : Bool) (s : ℕ) → (if a then 1 else (if b then 1 else s)) ≡ (if a || b then 1 else s)
mark_on_mark true b s = refl
mark_on_mark false b s = refl

marked_twice : (us vs ws : List ℕ) → ((n : ℕ) → (is_among us n || is_among vs n) ≡ is_among ws n) → (es : List (ℕ × Slot)) → marked us (marked vs es) ≡ marked ws es
marked_twice us vs ws both [] = refl
marked_twice us vs ws both (e ∷ es) =
    ap (λ s. (e.0, record e.1 { start = s }) ∷ marked us (marked vs es)) (mark_on_mark (is_among us e.0) (is_among vs e.0) e.1.start ∙ ap (λ b. if b then 1 else e.1.start) (both e.0))
    ∙ ap (λ fs. (e.0, marked_slot ws e.0 e.1) ∷ fs) (marked_twice us vs ws both es)

-- more names are marked
pub marked_more : (us vs : List ℕ) (es : List (ℕ × Slot)) → marked us (marked vs es) ≡ marked (vs ++ us) es
marked_more us vs es = marked_twice us vs (vs ++ us) (λ n. or_comm (is_among us n) (is_among vs n) ∙ sym (is_among-append vs us n)) es

pub marked_ahead : (us vs : List ℕ) (es : List (ℕ × Slot)) → marked us (marked vs es) ≡ marked (us ++ vs) es
marked_ahead us vs es = marked_twice us vs (us ++ vs) (λ n. sym (is_among-append us vs n)) es

pub marked_none : (es : List (ℕ × Slot)) → marked [] es ≡ es
marked_none [] = refl
marked_none (e ∷ es) = ap (λ fs. e ∷ fs) (marked_none es)

pub marked_absent : (name : ℕ) (es : List (ℕ × Slot)) → value_of es name ≡ None → marked (name ∷ []) es ≡ es
marked_absent name [] none = refl
marked_absent name (e ∷ es) none =
    elim (cases_Bool (e.0 == name)) [
      | inl here ↦ absurd (cc (rw here at none))
      | inr apart ↦
          let other : (name == e.0) ≡ false = ne_eqb name e.0 (λ same. eqb-false e.0 name apart (sym same)) in
          rw other (ap (λ fs. e ∷ fs) (marked_absent name es (rw apart at none)))
    ]

pub distinct_rest : {T : Type 0} (e : ℕ × T) (rest : List (ℕ × T)) → HasDistinctKeys (e ∷ rest) → HasDistinctKeys rest
distinct_rest e rest distinct = distinct_back (e ∷ []) rest distinct

-- a name is marked by a write to its slot
pub marked_one : (name : ℕ) (slot : Slot) (es : List (ℕ × Slot)) → HasDistinctKeys es → value_of es name ≡ Some slot → with_value es name (record slot { start = 1 }) ≡ marked (name ∷ []) es
marked_one name slot [] distinct found = absurd (cc)
marked_one name slot (e ∷ es) distinct found =
    elim (cases_Bool (e.0 == name)) [
      | inl here ↦
          let is : e.0 ≡ name = eqb-true e.0 name here in
          let value : Some e.1 ≡ Some slot = rw here at found in
          let same : e.1 ≡ slot = cc in
          let mine : (name == e.0) ≡ true = eq-eqb name e.0 (sym is) in
          let none : value_of es name ≡ None = ap (value_of es) (sym is) ∙ absent_behind e es distinct in
          rw (here, mine)
          (ap (λ k. (k, record slot { start = 1 }) ∷ es) (sym is)
          ∙ ap (λ s. (e.0, record s { start = 1 }) ∷ es) (sym same)
          ∙ ap (λ fs. (e.0, record e.1 { start = 1 }) ∷ fs) (sym (marked_absent name es none)))
      | inr apart ↦
          let other : (name == e.0) ≡ false = ne_eqb name e.0 (λ same. eqb-false e.0 name apart (sym same)) in
          rw (apart, other) (ap (λ fs. e ∷ fs) (marked_one name slot es (distinct_rest e es distinct) (rw apart at found)))
    ]

-- the uses of one more element
pub uses_more : {X : Type 0} (f : X → List ℕ) (xs : List X) (i : ℕ) (x : X) → i < length xs → x ≡ get_or xs i x → flat_map f (take i xs) ++ f x ≡ flat_map f (take (i + 1) xs)
uses_more f xs i x there is =
    sym (ap (flat_map f) (take_more xs i x there)
    ∙ flat_map-append f (take i xs) (get_or xs i x ∷ [])
    ∙ ap (λ us. flat_map f (take i xs) ++ us) (append-nil (f (get_or xs i x)) ∙ ap f (sym is)))

pub words_more : (words : List CodeRef) (i : ℕ) (none : CodeRef) → i < length words → code_word_uses (take i words) ++ (get_or words i none).block ∷ [] ≡ code_word_uses (take (i + 1) words)
words_more words i none there =
    sym (ap code_word_uses (take_more words i none there) ∙ map-append (λ (w : CodeRef). w.block) (take i words) (get_or words i none ∷ []))

last_key-marked : (us : List ℕ) (es : List (ℕ × Slot)) → last_key (marked us es) ≡ last_key es
last_key-marked us [] = refl
last_key-marked us (e ∷ []) = refl
last_key-marked us (e ∷ next ∷ es) = last_key-marked us (next ∷ es)

-- the targets of the terms behind the place are marked
pub record IsMarkedBehind (old now : List (ℕ × Slot)) (place : Option ℕ) : Type 0 where
  pub front : List (ℕ × Slot)
  pub back : List (ℕ × Slot)
  pub was : old ≡ front ++ back
  pub is : now ≡ marked (slot_uses back) old
  pub place_is : place ≡ last_key front

pub none_marked : (old : List (ℕ × Slot)) (place : Option ℕ) → place ≡ last_key old → IsMarkedBehind old old place
none_marked old place place_is =
    record { front = old; back = []; was = sym (append-nil old); is = sym (marked_none old); place_is = place_is }

pub all_marked : (old now : List (ℕ × Slot)) → IsMarkedBehind old now None → now ≡ marked (slot_uses old) old
all_marked old now done =
    let none = no_last done.front done.place_is in
    done.is ∙ ap (λ es. marked (slot_uses es) old) (sym (done.was ∙ ap (λ es. es ++ done.back) none))

-- the targets of the term of a name are marked next
pub record IsMarkedNext (old now : List (ℕ × Slot)) (name : ℕ) : Type 0 where
  pub lead : List (ℕ × Slot)
  pub value : Slot
  pub back : List (ℕ × Slot)
  pub was : old ≡ lead ++ (name, value) ∷ back
  pub is : now ≡ marked (slot_uses back) old
  pub at : IsIn now (marked (slot_uses back) lead) name (marked_slot (slot_uses back) name value) (marked (slot_uses back) back)

pub next_marked : (old now : List (ℕ × Slot)) (name : ℕ) → HasDistinctKeys old → IsMarkedBehind old now (Some name) → IsMarkedNext old now name
next_marked old now name distinct done =
    let us = slot_uses done.back in
    let last = last_of done.front name (sym done.place_is) in
    let was : old ≡ last.lead ++ (name, last.value) ∷ done.back =
    done.was ∙ ap (λ es. es ++ done.back) last.is ∙ append_assoc last.lead ((name, last.value) ∷ []) done.back in
    let is : now ≡ marked us last.lead ++ (name, marked_slot us name last.value) ∷ marked us done.back =
    done.is ∙ ap (marked us) was ∙ map-append (λ (e : ℕ × Slot). (e.0, marked_slot us e.0 e.1)) last.lead ((name, last.value) ∷ done.back) in
    let still : HasDistinctKeys now = rw done.is (distinct-marked us old distinct) in
    record {
      lead = last.lead;
      value = last.value;
      back = done.back;
      was = was;
      is = done.is;
      at = rw is (is_in (marked us last.lead) (marked us done.back) name (marked_slot us name last.value) (subst (λ (es : List (ℕ × Slot)). HasDistinctKeys es) is still));
    }

module _ (old now new : List (ℕ × Slot)) (name : ℕ) (place : Option ℕ) (slot : Slot) (next : IsMarkedNext old now name) (found : value_of now name ≡ Some slot) (new_is : new ≡ marked (term_uses slot.term) now) (place_is : place ≡ previous_key now name) where
  now_marked : new ≡ marked (slot_uses ((name, next.value) ∷ next.back)) old
  now_marked =
      let same : Some slot ≡ Some (marked_slot (slot_uses next.back) name next.value) = sym found ∙ next.at.found in
      let term : slot.term ≡ next.value.term = ap (λ s. s.term) (some_same slot (marked_slot (slot_uses next.back) name next.value) same) in
      new_is
      ∙ ap (λ t. marked (term_uses t) now) term
      ∙ ap (marked (term_uses next.value.term)) next.is
      ∙ marked_ahead (term_uses next.value.term) (slot_uses next.back) old
    where
      some_same : (a b : Slot) → Some a ≡ Some b → a ≡ b
      some_same a b same = cc

  place_last : place ≡ last_key next.lead
  place_last = place_is ∙ ap last_key next.at.ahead_is ∙ last_key-marked (slot_uses next.back) next.lead

  pub one_marked : IsMarkedBehind old new place
  one_marked = record { front = next.lead; back = (name, next.value) ∷ next.back; was = next.was; is = now_marked; place_is = place_last }

  pub mark_less : HasDistinctKeys old → length (up_to new place) < length (up_to now (Some name))
  mark_less distinct =
      let us = slot_uses ((name, next.value) ∷ next.back) in
      let whole : new ≡ marked us next.lead ++ marked us ((name, next.value) ∷ next.back) =
      now_marked ∙ ap (marked us) next.was ∙ map-append (λ (e : ℕ × Slot). (e.0, marked_slot us e.0 e.1)) next.lead ((name, next.value) ∷ next.back) in
      let still : HasDistinctKeys new = rw now_marked (distinct-marked us old distinct) in
      let left : up_to new place ≡ marked us next.lead =
      ap (up_to new) (place_last ∙ sym (last_key-marked us next.lead))
      ∙ ap (λ es. up_to es (last_key (marked us next.lead))) whole
      ∙ up_to_last (marked us next.lead) (marked us ((name, next.value) ∷ next.back)) (subst (λ (es : List (ℕ × Slot)). HasDistinctKeys es) whole still) in
      let size : (vs : List ℕ) → length (marked vs next.lead) ≡ length next.lead = λ vs. length-map {B = ℕ × Slot} next.lead (λ e. (e.0, marked_slot vs e.0 e.1)) in
      omega (arith, ap (λ es. length es) left, ap (λ es. length es) next.at.up_to_is, length-append (marked (slot_uses next.back) next.lead) ((name, marked_slot (slot_uses next.back) name next.value) ∷ []), size us, size (slot_uses next.back))
