-- A part is split in two.
use Rattle.std.proofs.Common.{◌≡◌, ◌≢◌, ◌∙◌, ℕ, ◌+◌, ◌<◌, ◌≤◌, List, [], ◌∷◌, ◌++◌, length, set, get_or, inl, inr, refl, sym, subst, ap, arith}
use Rattle.std.proofs.lemmas.Bool.{cases_lt, cases_eq}
use Rattle.std.proofs.lemmas.List.{get_or-set_same, get_or-set_other, length-set, length-append}
use Rattle.sq_lookup.specs.declared.parts.Bounds.{Bounds}
use Rattle.sq_lookup.specs.declared.places.Part.{Part}
use Rattle.sq_lookup.specs.declared.places.Place.{Place}
use Rattle.sq_lookup.specs.Lowering.{nowhere, lowered_word}
use Rattle.sq_lookup.specs.Shifting.{shifted_word, IsBetween}
use Rattle.sq_lookup.specs.Standing.{part_at, place_at, no_part, word_in, IsIn, IsPlaced, AreMoved}
use Rattle.sq_lookup.proofs.Placing.{pushed_rest, split_other, split_other_word, split_ahead, split_ahead_word, split_behind, split_behind_word}

-- the blocks of these slots are within the bounds once they are shifted
abbrev pub AreWithin : List ℕ → List Place → ℕ → Part → Bounds → Type 0
AreWithin order places number part bounds =
    (n : ℕ) → n < length places → IsIn order number part.start part.end n (place_at places n) → (place_at places n).words < nowhere → IsBetween bounds (shifted_word part.shift (place_at places n).words)

module _ (parts : List Part) (order : List ℕ) (number at : ℕ) (part : Part) (low high : Bounds) (old new : List Place)
    (within : number < length parts)
    (is_part : part ≡ part_at parts number) where
  abbrev pub behind : Part
  behind = record { start = at; end = part.end; shift = 0; bounds = high }

  abbrev pub ahead : Part
  ahead = record { start = part.start; end = at; shift = part.shift; bounds = low }

  abbrev pub split_parts : List Part
  split_parts = set (set (parts ++ part ∷ []) (length parts) behind) number ahead

  pub long : length split_parts ≡ length parts + 1
  long = omega (arith, length-set (set (parts ++ part ∷ []) (length parts) behind) number ahead, length-set (parts ++ part ∷ []) (length parts) behind, length-append parts (part ∷ []))

  long_behind : length (set (parts ++ part ∷ []) (length parts) behind) ≡ length parts + 1
  long_behind = omega (arith, length-set (parts ++ part ∷ []) (length parts) behind, length-append parts (part ∷ []))

  rest : (p : ℕ) → p < length parts → p ≢ number → part_at split_parts p ≡ part_at parts p
  rest p less other =
      get_or-set_other (set (parts ++ part ∷ []) (length parts) behind) number p ahead no_part other
      ∙ get_or-set_other (parts ++ part ∷ []) (length parts) p behind no_part (λ is. omega (arith, is, less))
      ∙ pushed_rest parts part no_part p less

  is_ahead : part_at split_parts number ≡ ahead
  is_ahead = get_or-set_same (set (parts ++ part ∷ []) (length parts) behind) number ahead no_part (omega (arith, long_behind, within))

  is_behind : part_at split_parts (length parts) ≡ behind
  is_behind =
      get_or-set_other (set (parts ++ part ∷ []) (length parts) behind) number (length parts) ahead no_part (λ is. omega (arith, is, within))
      ∙ get_or-set_same (parts ++ part ∷ []) (length parts) behind no_part (omega (arith, length-append parts (part ∷ [])))

  module _ (moved : AreMoved (λ w. lowered_word nowhere (shifted_word part.shift w)) number (length parts) at part.end order old new)
      (highs : AreWithin order new (length parts) behind high)
      (lows : AreWithin order new number ahead low)
      (n : ℕ) (inside : n < length old) (placed : IsPlaced parts order n (place_at old n)) where
    abbrev pub old_place : Place
    old_place = place_at old n

    abbrev pub new_place : Place
    new_place = place_at new n

    counted : n < length new
    counted = omega (arith, inside, moved.count)

    ends : old_place.part ≡ number → old_place.slot < part.end
    ends is = let before = placed.inside.before in omega (arith, before, ap (λ (it : Part). it.end) (ap (part_at parts) is ∙ sym is_part))

    starts : old_place.part ≡ number → part.start ≤ old_place.slot
    starts is = let from = placed.inside.from in omega (arith, from, ap (λ (it : Part). it.start) (ap (part_at parts) is ∙ sym is_part))

    pub split_placed : IsPlaced split_parts order n new_place
    split_placed =
        elim (cases_eq old_place.part number) [
          | inr other ↦ split_other parts split_parts order number n at part behind ahead old_place new_place within is_part long rest is_ahead is_behind placed other (moved.other n other)
          | inl is ↦
              elim (cases_lt old_place.slot at) [
                | inl less ↦
                    let same = moved.below n less in
                    split_ahead parts split_parts order number n at part behind ahead old_place new_place within is_part long rest is_ahead is_behind placed is same less refl refl
                    (subst (λ (it : Place). it.words < nowhere → IsBetween low (shifted_word part.shift it.words)) same
                    (lows n counted (subst (λ (it : Place). IsIn order number part.start at n it) (sym same)
                    (record { part = is; from = starts is; before = less; slot = placed.inside.slot; listed = placed.inside.listed }))))
                | inr past ↦
                    let it = moved.inside n inside (record { part = is; from = past; before = ends is; slot = placed.inside.slot; listed = placed.inside.listed }) in
                    let to = ap (λ (p : Place). p.part) it in
                    let slot = moved.slot n in
                    split_behind parts split_parts order number n at part behind ahead old_place new_place within is_part long rest is_ahead is_behind placed is to slot past refl refl
                    (highs n counted (record { part = to; from = omega (arith, slot, past); before = omega (arith, slot, ends is); slot = omega (arith, slot, placed.inside.slot); listed = ap (λ k. get_or order k 0) slot ∙ placed.inside.listed }))
              ]
        ]

    pub split_word : word_in split_parts new_place ≡ word_in parts old_place
    split_word =
        elim (cases_eq old_place.part number) [
          | inr other ↦ split_other_word parts split_parts order number n at part behind ahead old_place new_place within is_part long rest is_ahead is_behind placed other (moved.other n other)
          | inl is ↦
              elim (cases_lt old_place.slot at) [
                | inl less ↦ split_ahead_word parts split_parts order number n at part behind ahead old_place new_place within is_part long rest is_ahead is_behind placed is (moved.below n less) refl
                | inr past ↦
                    let it = moved.inside n inside (record { part = is; from = past; before = ends is; slot = placed.inside.slot; listed = placed.inside.listed }) in
                    split_behind_word parts split_parts order number n at part behind ahead old_place new_place within is_part long rest is_ahead is_behind placed is (ap (λ (p : Place). p.part) it) refl (ap (λ (p : Place). p.words) it)
              ]
        ]

  module _ (moved : AreMoved (λ w. lowered_word nowhere (shifted_word part.shift w)) number (length parts) at part.end order old new)
      (highs : AreWithin order new (length parts) behind high)
      (lows : AreWithin order new number ahead low)
      (kept : (n : ℕ) → n < length old → IsPlaced parts order n (place_at old n))
      (qs : List Part) (ps : List Place) (qs_is : qs ≡ split_parts) (ps_is : ps ≡ new) where
    pub split_kept : (n : ℕ) → n < length ps → IsPlaced qs order n (place_at ps n)
    split_kept n inside =
        let within_old : n < length old = omega (arith, inside, ap (λ (xs : List Place). length xs) ps_is, moved.count) in
        subst (λ xs. IsPlaced qs order n (place_at xs n)) (sym ps_is)
        (subst (λ xs. IsPlaced xs order n (place_at new n)) (sym qs_is) (split_placed moved highs lows n within_old (kept n within_old)))

    pub split_same : (n : ℕ) → n < length old → word_in qs (place_at ps n) ≡ word_in parts (place_at old n)
    split_same n inside =
        ap (λ xs. word_in qs (place_at xs n)) ps_is
        ∙ ap (λ xs. word_in xs (place_at new n)) qs_is
        ∙ split_word moved highs lows n inside (kept n inside)
