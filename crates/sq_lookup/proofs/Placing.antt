-- Places in parts, where parts are rewritten.
use Rattle.std.proofs.Common.{◌≡◌, ◌∙◌, ◌≢◌, ℕ, ◌+◌, ◌-◌, ◌%◌, ◌^◌, ◌<◌, ◌≤◌, true, false, List, [], ◌∷◌, ◌++◌, length, set, get_or, inl, inr, refl, sym, subst, ap, arith}
use Rattle.std.proofs.lemmas.Bool.{cases_Bool, cases_lt, cases_eq, ltb-true, lt-ltb, le-ltb}
use Rattle.std.proofs.lemmas.List.{get_or-set_same, get_or-set_other, get_or_append_left, get_or-append_right, length-set, length-append}
use Rattle.std.specs.Prelude.{nat_lt}
use Rattle.sq_lookup.specs.declared.parts.Bounds.{Bounds}
use Rattle.sq_lookup.specs.declared.places.Place.{Place}
use Rattle.sq_lookup.specs.declared.places.Part.{Part}
use Rattle.sq_lookup.specs.Lowering.{nowhere, lowered_word}
use Rattle.sq_lookup.specs.Shifting.{shifted_word, IsBetween, IsShift}
use Rattle.sq_lookup.specs.Standing.{part_at, place_at, no_part, no_place, word_in, IsIn, IsPlaced}

-- LISTS

pub pushed_last : {X : Type 0} (xs : List X) (x d : X) (k : ℕ) → length xs ≡ k → get_or (xs ++ x ∷ []) k d ≡ x
pushed_last xs x d k count =
    let none : k - k ≡ 0 = omega arith in
    get_or-append_right xs (x ∷ []) k k d count (omega arith) ∙ ap (λ m. get_or (x ∷ []) m d) none

pub pushed_rest : {X : Type 0} (xs : List X) (x d : X) (k : ℕ) → k < length xs → get_or (xs ++ x ∷ []) k d ≡ get_or xs k d
pushed_rest xs x d k within = get_or_append_left xs (x ∷ []) d k within

-- what is pushed has what those before have
pub pushed_each : {X : Type 0} (P : ℕ → X → Type 0) (xs : List X) (x d : X) → ((k : ℕ) → k < length xs → P k (get_or xs k d)) → P (length xs) x → (k : ℕ) → k < length (xs ++ x ∷ []) → P k (get_or (xs ++ x ∷ []) k d)
pushed_each P xs x d each last k within =
    elim (cases_lt k (length xs)) [
      | inl less ↦ subst (P k) (sym (pushed_rest xs x d k less)) (each k less)
      | inr past ↦
          let at : length xs ≡ k = omega (arith, past, within, length-append xs (x ∷ [])) in
          subst (P k) (sym (pushed_last xs x d k at)) (subst (λ m. P m x) at last)
    ]

-- SHIFTS

pub shifted_twice : (shift more w : ℕ) → w < nowhere → shifted_word ((shift + more) % 2 ^ 32) w ≡ (shifted_word shift w + more) % 2 ^ 32
shifted_twice shift more w there =
    let is : nat_lt w nowhere ≡ true = lt-ltb w nowhere there in
    rw is (omega arith)

-- what is shifted by as many as all within the bounds is within the shifted bounds
pub shifted_between : (f : ℕ → ℕ) (bounds : Bounds) (shift more w : ℕ) → IsShift f bounds more → w < nowhere → IsBetween bounds (shifted_word shift w) → (new : Bounds) → new.least ≡ (bounds.least + more) % 2 ^ 32 → new.most ≡ (bounds.most + more) % 2 ^ 32 → IsBetween new (shifted_word ((shift + more) % 2 ^ 32) w)
shifted_between f bounds shift more w is there between new least most =
    let here = shifted_twice shift more w there in
    let low = is.least (shifted_word shift w) between in
    let high = is.most (shifted_word shift w) between in
    (omega (arith, here, low, least), omega (arith, here, high, most))

pub unshifted : (w : ℕ) → shifted_word 0 w ≡ w
unshifted w =
    elim (cases_Bool (nat_lt w nowhere)) [
      | inl there ↦ let below = ltb-true w nowhere there in rw there (omega (arith, below))
      | inr none ↦ rw none refl
    ]

-- nothing is behind nowhere
pub lowered_nowhere : (w : ℕ) → lowered_word nowhere w ≡ w
lowered_nowhere w =
    elim (cases_Bool (nat_lt w nowhere)) [
      | inl there ↦
          let not : nat_lt nowhere w ≡ false = le-ltb nowhere w (let below = ltb-true w nowhere there in omega (arith, below)) in
          rw (there, not) refl
      | inr none ↦ rw none refl
    ]

-- PLACES

-- a place in a part that is known
pub placed_in : (parts : List Part) (order : List ℕ) (n : ℕ) (place : Place) (part : Part) → part_at parts place.part ≡ part → place.part < length parts → IsIn order place.part part.start part.end n place → (place.words < nowhere → IsBetween part.bounds (shifted_word part.shift place.words)) → IsPlaced parts order n place
placed_in parts order n place part is few inside between =
    let back = sym is in
    record {
      part = few;
      inside = subst (λ (it : Part). IsIn order place.part it.start it.end n place) back inside;
      between = λ there. subst (λ (it : Part). IsBetween it.bounds (shifted_word it.shift place.words)) back (between there);
    }

-- a part is rewritten that has the same slots
module _ (parts : List Part) (order : List ℕ) (number n : ℕ) (part : Part) (place new : Place)
    (within : number < length parts)
    (start : part.start ≡ (part_at parts number).start) (end : part.end ≡ (part_at parts number).end)
    (placed : IsPlaced parts order n place) (slot : new.slot ≡ place.slot) (same : new.part ≡ place.part) where
  pub placed_again : (place.part ≢ number → new ≡ place) → (place.part ≡ number → new.words < nowhere → IsBetween part.bounds (shifted_word part.shift new.words)) → IsPlaced (set parts number part) order n new
  placed_again else between =
      let long : length (set parts number part) ≡ length parts = length-set parts number part in
      elim (cases_eq place.part number) [
        | inl is ↦
            let at : part_at (set parts number part) new.part ≡ part = ap (λ p. part_at (set parts number part) p) (same ∙ is) ∙ get_or-set_same parts number part no_part within in
            let low = ap (λ p. (part_at parts p).start) is in
            let high = ap (λ p. (part_at parts p).end) is in
            let inside = placed.inside in
            placed_in (set parts number part) order n new part at (omega (arith, long, within, same, is))
            (record {
              part = refl;
              from = omega (arith, start, slot, low, inside.from);
              before = omega (arith, end, slot, high, inside.before);
              slot = omega (arith, slot, inside.slot);
              listed = ap (λ k. get_or order k 0) slot ∙ inside.listed;
            })
            (between is)
        | inr other ↦
            subst (IsPlaced (set parts number part) order n) (sym (else other))
            (placed_in (set parts number part) order n place (part_at parts place.part)
            (get_or-set_other parts number place.part part no_part other)
            (omega (arith, long, placed.part))
            placed.inside
            placed.between)
      ]

-- a part is split: the places of it from a slot on are of the new part, which is not shifted
module _ (parts new_parts : List Part) (order : List ℕ) (number n at : ℕ) (part behind ahead : Part) (place new : Place)
    (within : number < length parts)
    (is_part : part ≡ part_at parts number)
    (long : length new_parts ≡ length parts + 1)
    (rest : (p : ℕ) → p < length parts → p ≢ number → part_at new_parts p ≡ part_at parts p)
    (is_ahead : part_at new_parts number ≡ ahead)
    (is_behind : part_at new_parts (length parts) ≡ behind)
    (placed : IsPlaced parts order n place) where
  -- it is of another part
  pub split_other : place.part ≢ number → new ≡ place → IsPlaced new_parts order n new
  split_other other same =
      subst (IsPlaced new_parts order n) (sym same)
      (placed_in new_parts order n place (part_at parts place.part) (rest place.part placed.part other) (omega (arith, long, placed.part)) placed.inside placed.between)

  pub split_other_word : place.part ≢ number → new ≡ place → word_in new_parts new ≡ word_in parts place
  split_other_word other same =
      ap (word_in new_parts) same ∙ ap (λ (it : Part). shifted_word it.shift place.words) (rest place.part placed.part other)

  own : place.part ≡ number → part_at parts place.part ≡ part
  own is = ap (part_at parts) is ∙ sym is_part

  -- it is in front of the seam
  pub split_ahead : place.part ≡ number → new ≡ place → place.slot < at → ahead.start ≡ part.start → ahead.end ≡ at → (place.words < nowhere → IsBetween ahead.bounds (shifted_word ahead.shift place.words)) → IsPlaced new_parts order n new
  split_ahead is same less start end between =
      let inside = placed.inside in
      let low = ap (λ (it : Part). it.start) (own is) in
      subst (IsPlaced new_parts order n) (sym same)
      (placed_in new_parts order n place ahead (ap (part_at new_parts) is ∙ is_ahead) (omega (arith, long, placed.part))
      (record { part = refl; from = omega (arith, low, start, inside.from); before = omega (arith, end, less); slot = inside.slot; listed = inside.listed })
      between)

  pub split_ahead_word : place.part ≡ number → new ≡ place → ahead.shift ≡ part.shift → word_in new_parts new ≡ word_in parts place
  split_ahead_word is same shift =
      ap (word_in new_parts) same
      ∙ ap (λ (it : Part). shifted_word it.shift place.words) (ap (part_at new_parts) is ∙ is_ahead)
      ∙ ap (λ k. shifted_word k place.words) (shift ∙ sym (ap (λ (it : Part). it.shift) (own is)))

  -- it is behind the seam
  pub split_behind : place.part ≡ number → new.part ≡ length parts → new.slot ≡ place.slot → at ≤ place.slot → behind.start ≡ at → behind.end ≡ part.end → (new.words < nowhere → IsBetween behind.bounds (shifted_word behind.shift new.words)) → IsPlaced new_parts order n new
  split_behind is to slot past start end between =
      let inside = placed.inside in
      let high = ap (λ (it : Part). it.end) (own is) in
      placed_in new_parts order n new behind (ap (part_at new_parts) to ∙ is_behind) (omega (arith, long, to))
      (record {
        part = refl;
        from = omega (arith, slot, start, past);
        before = omega (arith, slot, high, end, inside.before);
        slot = omega (arith, slot, inside.slot);
        listed = ap (λ k. get_or order k 0) slot ∙ inside.listed;
      })
      between

  pub split_behind_word : place.part ≡ number → new.part ≡ length parts → behind.shift ≡ 0 → new.words ≡ lowered_word nowhere (shifted_word part.shift place.words) → word_in new_parts new ≡ word_in parts place
  split_behind_word is to shift words =
      ap (λ (it : Part). shifted_word it.shift new.words) (ap (part_at new_parts) to ∙ is_behind)
      ∙ ap (λ k. shifted_word k new.words) shift
      ∙ unshifted new.words
      ∙ words
      ∙ lowered_nowhere (shifted_word part.shift place.words)
      ∙ ap (λ (it : Part). shifted_word it.shift place.words) (sym (own is))

-- a block of a part that is not shifted comes to have so many words before it
module _ (parts : List Part) (order : List ℕ) (places : List Place) (number name words : ℕ) (part : Part) (new : Place)
    (within : name < length places) (within_part : number < length parts)
    (own : (place_at places name).part ≡ number)
    (start : part.start ≡ (part_at parts number).start) (end : part.end ≡ (part_at parts number).end)
    (shift : part.shift ≡ 0) (old_shift : (part_at parts number).shift ≡ 0)
    (wider : (w : ℕ) → IsBetween (part_at parts number).bounds w → IsBetween part.bounds w)
    (fits : words < nowhere → IsBetween part.bounds (shifted_word 0 words))
    (slot : new.slot ≡ (place_at places name).slot) (same : new.part ≡ (place_at places name).part) (put : new.words ≡ words)
    (n : ℕ) (placed : IsPlaced parts order n (place_at places n)) where
  pub put_placed : IsPlaced (set parts number part) order n (place_at (set places name new) n)
  put_placed =
      elim (cases_eq n name) [
        | inl is ↦
            let at : place_at (set places name new) n ≡ new = ap (λ k. place_at (set places name new) k) is ∙ get_or-set_same places name new no_place within in
            let old : place_at places name ≡ place_at places n = ap (place_at places) (sym is) in
            let of : (place_at places n).part ≡ number = ap (λ (it : Place). it.part) (sym old) ∙ own in
            subst (IsPlaced (set parts number part) order n) (sym at)
            (placed_again parts order number n part (place_at places n) new within_part start end placed
            (slot ∙ ap (λ (it : Place). it.slot) old) (same ∙ ap (λ (it : Place). it.part) old)
            (λ else. absurd (else of))
            (λ _ there.
            subst (λ w. IsBetween part.bounds (shifted_word part.shift w)) (sym put)
            (subst (λ k. IsBetween part.bounds (shifted_word k words)) (sym shift) (fits (omega (arith, there, put))))))
        | inr other ↦
            let at : place_at (set places name new) n ≡ place_at places n = get_or-set_other places name n new no_place other in
            subst (IsPlaced (set parts number part) order n) (sym at)
            (placed_again parts order number n part (place_at places n) (place_at places n) within_part start end placed refl refl (λ _. refl)
            (λ is there.
            let here = subst (λ p. IsBetween (part_at parts p).bounds (shifted_word (part_at parts p).shift (place_at places n).words)) is (placed.between there) in
            let bare = subst (λ k. IsBetween (part_at parts number).bounds (shifted_word k (place_at places n).words)) old_shift here in
            subst (λ k. IsBetween part.bounds (shifted_word k (place_at places n).words)) (sym shift) (wider (shifted_word 0 (place_at places n).words) bare)))
      ]
