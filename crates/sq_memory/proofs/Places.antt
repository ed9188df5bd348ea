-- The first region that has a cell at an address, by its place in a list.
use Rattle.std.proofs.Common.{◌≡◌, ℕ, suc, ◌+◌, ◌<◌, Bool, true, false, List, [], ◌∷◌, map, length, Option, Some, None, is_some, option_map, position, slice_get, slice_set, get_or, if◌then◌else◌, refl, sym, ap, ◌∙◌, subst, arith}
use Rattle.std.specs.List.{position_from}
use Rattle.std.proofs.lemmas.Iterator.Adapters.{position_from-zero}
use Rattle.std.proofs.lemmas.List.{map-set, length-map}
use Rattle.std.proofs.lemmas.Option.{slice_get-map, slice_get_read, slice_get_within}
use Rattle.sq_memory.specs.Regions.{Region, region_cell, or_else, get, region_with, put}

none_of : (o : Option ℕ) → ((k : ℕ) → o ≡ Some k → ⊥) → o ≡ None
none_of None f = refl
none_of (Some k) f = absurd (f k refl)

module _ {C : Type 0} (x : ℕ) where
  abbrev has : Region C → Bool
  has r = is_some (region_cell r x)

  -- The region at place j holds the address.
  pub record HoldsAt (rs : List (Region C)) (j : ℕ) : Type 0 where
    pub region : Region C
    pub at : slice_get rs j ≡ Some region
    pub there : is_some (region_cell region x) ≡ true
    pub got : get rs x ≡ region_cell region x
    pub written : (c : C) → slice_set rs j (region_with region x c) ≡ put rs x c

  -- No region holds it.
  pub record HoldsNone (rs : List (Region C)) : Type 0 where
    pub got : get rs x ≡ None
    pub written : (c : C) → put rs x c ≡ rs

  first_cell : (o p : Option C) → is_some o ≡ true → or_else o p ≡ o
  first_cell None p e = absurd (cc)
  first_cell (Some c) p e = refl

  later_cell : (o p : Option C) → is_some o ≡ false → or_else o p ≡ p
  later_cell None p e = refl
  later_cell (Some c) p e = absurd (cc)

  here : (r : Region C) (rs : List (Region C)) → has r ≡ true → HoldsAt (r ∷ rs) 0
  here r rs e = record {
    region = r;
    at = refl;
    there = e;
    got = first_cell (region_cell r x) (get rs x) e;
    written = λ c. rw e refl;
  }

  behind : (r : Region C) (rs : List (Region C)) (j : ℕ) → has r ≡ false → HoldsAt rs j → HoldsAt (r ∷ rs) (suc j)
  behind r rs j e h = record {
    region = h.region;
    at = h.at;
    there = h.there;
    got = later_cell (region_cell r x) (get rs x) e ∙ h.got;
    written = λ c. rw e (ap (λ qs. r ∷ qs) (h.written c));
  }

  none_behind : (r : Region C) (rs : List (Region C)) → has r ≡ false → HoldsNone rs → HoldsNone (r ∷ rs)
  none_behind r rs e h = record {
    got = later_cell (region_cell r x) (get rs x) e ∙ h.got;
    written = λ c. rw e (ap (λ qs. r ∷ qs) (h.written c));
  }

  holds_from : (rs : List (Region C)) (i k : ℕ) → position_from has i rs ≡ Some k → (j : ℕ) × (k ≡ i + j) × HoldsAt rs j
  holds_from [] i k e = absurd (cc)
  holds_from (r ∷ rs) i k e = tell (has r) refl e (holds_from rs (i + 1) k)
    where
      tell : (b : Bool) → has r ≡ b → (if b then Some i else position_from has (i + 1) rs) ≡ Some k → (position_from has (i + 1) rs ≡ Some k → (j : ℕ) × (k ≡ (i + 1) + j) × HoldsAt rs j) → (j : ℕ) × (k ≡ i + j) × HoldsAt (r ∷ rs) j
      tell true h p f = let q : i ≡ k = cc in (0, omega arith, here r rs h)
      tell false h p f = let y = f p in let q : k ≡ (i + 1) + y.0 = y.1 in (suc y.0, omega arith, behind r rs y.0 h y.2)

  none_from : (rs : List (Region C)) (i : ℕ) → position_from has i rs ≡ None → HoldsNone rs
  none_from [] i e = record { got = refl; written = λ c. refl }
  none_from (r ∷ rs) i e = tell (has r) refl e (none_from rs (i + 1))
    where
      tell : (b : Bool) → has r ≡ b → (if b then Some i else position_from has (i + 1) rs) ≡ None → (position_from has (i + 1) rs ≡ None → HoldsNone rs) → HoldsNone (r ∷ rs)
      tell true h p f = absurd (cc)
      tell false h p f = none_behind r rs h (f p)

  -- what a search found
  pub holds_at : (rs : List (Region C)) (o : Option ℕ) (k : ℕ) → o ≡ position (λ r. is_some (region_cell r x)) rs → o ≡ Some k → HoldsAt rs k
  holds_at rs o k p e =
      let y = holds_from rs 0 k (sym (position_from-zero has rs) ∙ (sym p ∙ e)) in
      let f : k ≡ 0 + y.0 = y.1 in
      let q : y.0 ≡ k = omega arith in subst (HoldsAt rs) q y.2

  pub holds_none : (rs : List (Region C)) (o : Option ℕ) → o ≡ position (λ r. is_some (region_cell r x)) rs → ((k : ℕ) → o ≡ Some k → ⊥) → HoldsNone rs
  holds_none rs o p f = none_from rs 0 (sym (position_from-zero has rs) ∙ (sym p ∙ none_of o f))

-- The same where regions stand in a list as what v makes them of.
module _ {A C : Type 0} (v : A → Region C) (x : ℕ) where
  position_from-map : (xs : List A) (i : ℕ) → position_from (λ r. is_some (region_cell (v r) x)) i xs ≡ position_from (λ r. is_some (region_cell r x)) i (map v xs)
  position_from-map [] i = refl
  position_from-map (r ∷ xs) i = ap (λ o. if is_some (region_cell (v r) x) then Some i else o) (position_from-map xs (i + 1))

  pub position-map : (xs : List A) → position (λ r. is_some (region_cell (v r) x)) xs ≡ position (λ r. is_some (region_cell r x)) (map v xs)
  position-map xs =
      position_from-zero (λ r. is_some (region_cell (v r) x)) xs
      ∙ (position_from-map xs 0 ∙ sym (position_from-zero (λ r. is_some (region_cell r x)) (map v xs)))

  element : (xs : List A) (k : ℕ) (r : A) → k < length xs → r ≡ get_or xs k r → slice_get (map v xs) k ≡ Some (v r)
  element xs k r l e = slice_get-map v xs k ∙ ap (option_map v) (slice_get_read xs (length xs) k r refl l e)

  pub within : (xs : List A) (rs : List (Region C)) (k : ℕ) → map v xs ≡ rs → HoldsAt x rs k → k < length xs
  within xs rs k e h =
      let l : k < length rs = slice_get_within rs k h.region h.at in
      let f : length (map v xs) ≡ length rs = ap length e in
      let m : length (map v xs) ≡ length xs = length-map xs v in omega arith

  -- r is what an index reads at the place found
  pub found_region : (xs : List A) (rs : List (Region C)) (k : ℕ) (r : A) → map v xs ≡ rs → HoldsAt x rs k → r ≡ get_or xs k r → (is_some (region_cell (v r) x) ≡ true) × (region_cell (v r) x ≡ get rs x) × ((c : C) (s : A) → v s ≡ region_with (v r) x c → map v (slice_set xs k s) ≡ put rs x c)
  found_region xs rs k r s h e =
      let at : slice_get rs k ≡ Some (v r) = ap (λ qs. slice_get qs k) (sym s) ∙ element xs k r (within xs rs k s h) e in
      let both : Some h.region ≡ Some (v r) = sym h.at ∙ at in
      let f : h.region ≡ v r = cc in
      let written : (c : C) (t : A) → v t ≡ region_with (v r) x c → map v (slice_set xs k t) ≡ put rs x c = λ c t w.
      map-set v xs k t
      ∙ (ap (λ qs. slice_set qs k (v t)) s
      ∙ (ap (slice_set rs k) (w ∙ ap (λ q. region_with q x c) (sym f)) ∙ h.written c)) in
      (ap (λ q. is_some (region_cell q x)) (sym f) ∙ h.there, ap (λ q. region_cell q x) (sym f) ∙ sym h.got, written)
