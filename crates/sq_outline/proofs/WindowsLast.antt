-- Occurrences of a window among some items: the last one of the left half, and those on both sides of it.
use Rattle.std.proofs.Common.{◌≡◌, ℕ, zero, suc, Bool, true, false, ◌+◌, ◌-◌, ◌≤◌, ◌<◌, max, List, [], ◌∷◌, ◌++◌, Option, None, Some, MatchOption, take, drop, length, get_or, inl, inr, refl, sym, ap, ◌∙◌, subst, arith, append_assoc}
use Rattle.std.specs.List.{All}
use Rattle.std.proofs.lemmas.Bool.{cases_Bool, cases_lt, lt-ltb, le-ltb}
use Rattle.std.proofs.lemmas.List.{drop_all, length-take, length-drop}
use Rattle.std.proofs.lemmas.List.Elements.{All-nil, All-cons, All-head}
use Rattle.sq_graph.specs.declared.item.Item.{Item}
use Rattle.sq_graph.specs.declared.item.Item.TheVariants.{Out}
use Rattle.sq_finger.proofs.Placing.{to_end}
use Rattle.sq_outline.specs.WindowsPlaces.{begins, places_from, apart_from, occurrences_from}
use Rattle.sq_outline.proofs.Early.{left_at}
use Rattle.sq_outline.proofs.WindowsStanding.{begins_is, too_short}
use Rattle.sq_outline.proofs.WindowsApart.{Spaced, Stands, all_back, from_end, spaced, still_all, places_stand}

-- what a test tells of the items from a place up to the end
pub begins_from : (window items : List Item) (at : ℕ) (b e : Bool) → b ≡ begins window (take (length items - at) (drop at items)) → b ≡ e → begins window (drop at items) ≡ e
begins_from window items at b e is now = ap (λ (is : List Item). begins window is) (sym (to_end items at)) ∙ sym is ∙ now

-- all are at or behind the place from which on they are looked for
places_behind : (window : List Item) (least at : ℕ) (items : List Item) → least ≤ at → All (λ k. least ≤ k) (places_from window at items)
places_behind window least at [] l = All-nil (λ k. least ≤ k)
places_behind window least at (item ∷ items) l =
    let rest = places_behind window least (at + 1) items (omega (arith, l)) in
    elim (cases_Bool (begins window (item ∷ items))) [
      | inl here ↦ rw here (All-cons (λ k. least ≤ k) at (places_from window (at + 1) items) l rest)
      | inr fails ↦ rw fails rest
    ]

pub from_place : (window : List Item) (end from : ℕ) (items : List Item) → All (λ at. from ≤ at) (apart_from (length window) end (places_from window from items))
from_place window end from items = still_all (λ at. from ≤ at) (length window) end (places_from window from items) (places_behind window from from items (omega arith))

-- WHERE ONE MAY BEGIN

-- where all are behind both places, one is as good as the other
same_apart : (n end from : ℕ) (places : List ℕ) → end ≤ from → All (λ k. from ≤ k) places → apart_from n end places ≡ apart_from n from places
same_apart n end from [] l all = refl
same_apart n end from (at ∷ places) l all =
    let past : from ≤ at = All-head (λ k. from ≤ k) at places all in
    let also : end ≤ at = omega (arith, l, past) in
    rw (le-ltb at end also, le-ltb at from past) refl

module _ (window items : List Item) where
  abbrev n : ℕ
  n = length window

  -- one place on
  one_skipped : (end at : ℕ) → at < end → apart_from (length window) end (places_from window at (drop at items)) ≡ apart_from (length window) end (places_from window (at + 1) (drop (at + 1) items))
  one_skipped end at before =
      elim (cases_lt at (length items)) [
        | inl there ↦
            let split = left_at items at (Out 0) there in
            let rest : apart_from n end (places_from window at (get_or items at (Out 0) ∷ drop (at + 1) items)) ≡ apart_from n end (places_from window (at + 1) (drop (at + 1) items)) =
            elim (cases_Bool (begins window (get_or items at (Out 0) ∷ drop (at + 1) items))) [
              | inl here ↦ rw (here, lt-ltb at end before) refl
              | inr fails ↦ rw fails refl
            ] in
            ap (λ (is : List Item). apart_from n end (places_from window at is)) split ∙ rest
        | inr past ↦
            let next : length items ≤ at + 1 = omega (arith, past) in
            ap (λ (is : List Item). apart_from n end (places_from window at is)) (drop_all at items past)
            ∙ sym (ap (λ (is : List Item). apart_from n end (places_from window (at + 1) is)) (drop_all (at + 1) items next))
      ]

  some_skipped : (k end at : ℕ) → end ≡ at + k → apart_from (length window) end (places_from window at (drop at items)) ≡ occurrences_from window end items
  some_skipped zero end at is =
      let same : at ≡ end = omega (arith, is) in
      ap (λ f. apart_from n end (places_from window f (drop f items))) same
  some_skipped (suc k) end at is = one_skipped end at (omega (arith, is)) ∙ some_skipped k end (at + 1) (omega (arith, is))

  skipped : (end at : ℕ) → apart_from (length window) end (places_from window at (drop at items)) ≡ occurrences_from window (max at end) items
  skipped end at =
      elim (cases_lt at end) [
        | inl l ↦
            let is : end ≡ max at end = omega (arith, l) in
            some_skipped (end - at) end at (omega (arith, l)) ∙ ap (λ f. occurrences_from window f items) is
        | inr l ↦
            let is : at ≡ max at end = omega (arith, l) in
            same_apart n end at (places_from window at (drop at items)) l (places_behind window at at (drop at items) (omega arith)) ∙ ap (λ f. occurrences_from window f items) is
      ]

-- THE LEFT HALF

-- the last one of these, where there is one, and where it ends
abbrev pub IsLast : ℕ → ℕ → ℕ → List ℕ → Option ℕ → Type 0
IsLast n first end places None = (places ≡ []) × (end ≡ first)
IsLast n first end places (Some at) = (before : List ℕ) × (places ≡ before ++ at ∷ []) × (end ≡ at + n)

-- the occurrences up to a place are known
pub record AreKnown (window items : List Item) (first at end : ℕ) (last : Option ℕ) : Type 0 where
  pub known : List ℕ
  pub last_is : IsLast (length window) first end known last
  pub whole : occurrences_from window first items ≡ known ++ apart_from (length window) end (places_from window at (drop at items))

module _ (window items : List Item) (first : ℕ) where
  pub none_known : AreKnown window items first first first None
  none_known = record { known = []; last_is = (refl, refl); whole = refl }

  module _ (at end : ℕ) (last : Option ℕ) (are : AreKnown window items first at end last) where
    pub one_known : at < length items → end ≤ at → begins window (drop at items) ≡ true → AreKnown window items first (at + 1) (at + length window) (Some at)
    one_known there past here =
        let split = left_at items at (Out 0) there in
        let n = length window in
        let begun : begins window (get_or items at (Out 0) ∷ drop (at + 1) items) ≡ true = subst (λ (is : List Item). begins window is ≡ true) split here in
        let rest : apart_from n end (places_from window at (get_or items at (Out 0) ∷ drop (at + 1) items)) ≡ at ∷ apart_from n (at + n) (places_from window (at + 1) (drop (at + 1) items)) =
        rw (begun, le-ltb at end past) refl in
        record {
          known = are.known ++ at ∷ [];
          last_is = (are.known, refl, refl);
          whole =
              are.whole
              ∙ ap (λ (is : List Item). are.known ++ apart_from n end (places_from window at is)) split
              ∙ ap (λ ps. are.known ++ ps) rest
              ∙ sym (append_assoc are.known (at ∷ []) (apart_from n (at + n) (places_from window (at + 1) (drop (at + 1) items))));
        }

    pub none_here : at < length items → begins window (drop at items) ≡ false → AreKnown window items first (at + 1) end last
    none_here there fails =
        let split = left_at items at (Out 0) there in
        let n = length window in
        let begun : begins window (get_or items at (Out 0) ∷ drop (at + 1) items) ≡ false = subst (λ (is : List Item). begins window is ≡ false) split fails in
        let rest : apart_from n end (places_from window at (get_or items at (Out 0) ∷ drop (at + 1) items)) ≡ apart_from n end (places_from window (at + 1) (drop (at + 1) items)) = rw begun refl in
        record {
          known = are.known;
          last_is = are.last_is;
          whole = are.whole ∙ ap (λ (is : List Item). are.known ++ apart_from n end (places_from window at is)) split ∙ ap (λ ps. are.known ++ ps) rest;
        }

    pub none_past : at < end → AreKnown window items first (at + 1) end last
    none_past before = record { known = are.known; last_is = are.last_is; whole = are.whole ∙ ap (λ ps. are.known ++ ps) (one_skipped window items end at before) }

    -- what is behind them, where they are those of the left half
    behind : occurrences_from window first items ≡ are.known ++ occurrences_from window (max at end) items
    behind = are.whole ∙ ap (λ ps. are.known ++ ps) (skipped window items end at)

  pub left_half : (middle end : ℕ) (last : Option ℕ) → first ≤ middle → AreKnown window items first middle end last
      → MatchOption last (occurrences_from window first items ≡ occurrences_from window middle items)
      (λ at. (before : List ℕ) × (occurrences_from window first items ≡ before ++ at ∷ occurrences_from window (max middle (at + length window)) items))
  left_half middle end None order are =
      let is : max middle end ≡ middle = omega (arith, order, are.last_is.1) in
      behind middle end None are ∙ (λ i. are.last_is.0 i ++ occurrences_from window (is i) items)
  left_half middle end (Some at) order are = (
    are.last_is.0,
    behind middle end (Some at) are
        ∙ (λ i. are.last_is.1 i ++ occurrences_from window (max middle (are.last_is.2 i)) items)
        ∙ append_assoc are.last_is.0 (at ∷ []) (occurrences_from window (max middle (at + length window)) items),
  )

-- CUTS

take_less : {X : Type 0} (m k : ℕ) (xs : List X) → m ≤ k → take m (take k xs) ≡ take m xs
take_less zero k xs l = refl
take_less (suc m) zero xs l = absurd (omega (arith, l))
take_less (suc m) (suc k) [] l = refl
take_less (suc m) (suc k) (x ∷ xs) l = ap (λ ys. x ∷ ys) (take_less m k xs (omega (arith, l)))

begins_within : (window items : List Item) (k : ℕ) → begins window (take k items) ≡ true → begins window items ≡ true
begins_within window items k here =
    let is = (begins_is window (take k items)).0 here in
    let few : length window ≤ k = omega (arith, ap length is, length-take (length window) (take k items), length-take k items) in
    (begins_is window items).1 (sym (take_less (length window) k items few) ∙ is)

begins_cut : (window items : List Item) (k : ℕ) → length window ≤ k → begins window items ≡ true → begins window (take k items) ≡ true
begins_cut window items k few here = (begins_is window (take k items)).1 (take_less (length window) k items few ∙ (begins_is window items).0 here)

pub one_of : (P : ℕ → Type 0) (before : List ℕ) (at : ℕ) (behind : List ℕ) → All P (before ++ at ∷ behind) → P at
one_of P before at behind all = All-head P at behind (all_back P before (at ∷ behind) all)

-- the first of some has none before it
only_one : (n at : ℕ) (before behind : List ℕ) → 1 ≤ n → Spaced n (before ++ at ∷ behind) → All (λ k. at ≤ k) (before ++ at ∷ behind) → before ≡ []
only_one n at [] rest some spaced from = refl
only_one n at (first ∷ before) rest some spaced from =
    let behind : first + n ≤ at = one_of (λ k. first + n ≤ k) before at rest spaced.0 in
    let ahead : at ≤ first = All-head (λ k. at ≤ k) first (before ++ at ∷ rest) from in
    absurd (omega (arith, some, behind, ahead))

heads : (x y : ℕ) (xs ys : List ℕ) → x ∷ xs ≡ y ∷ ys → (x ≡ y) × (xs ≡ ys)
heads x y xs ys e = let p : x ≡ y = cc in let q : xs ≡ ys = cc in (p, q)

-- without the items from an occurrence on those before it are left
module _ (window : List Item) (some : 1 ≤ length window) where
  abbrev m : ℕ
  m = length window

  cut_from : (end from k at : ℕ) (items : List Item) (before behind : List ℕ) → at ≡ from + k → apart_from m end (places_from window from items) ≡ before ++ at ∷ behind
      → apart_from m end (places_from window from (take k items)) ≡ before
  cut_from end from k at [] [] behind is e = absurd (cc)
  cut_from end from k at [] (b ∷ before) behind is e = absurd (cc)
  cut_from end from zero at (item ∷ items) before behind is e =
      let here : at ≡ from = omega (arith, is) in
      let apart : Spaced m (before ++ at ∷ behind) = subst (Spaced m) e (spaced m end (places_from window from (item ∷ items))) in
      let past : All (λ k. from ≤ k) (before ++ at ∷ behind) = subst (λ ps. All (λ k. from ≤ k) ps) e (from_place window end from (item ∷ items)) in
      sym (only_one m at before behind some apart (subst (λ f. All (λ k. f ≤ k) (before ++ at ∷ behind)) (sym here) past))
  cut_from end from (suc k) at (item ∷ items) before behind is e =
      let next : at ≡ (from + 1) + k = omega (arith, is) in
      elim (cases_Bool (begins window (item ∷ items))) [
        | inr fails ↦
            let none : begins window (item ∷ take k items) ≡ false = not_within fails in
            let left : apart_from m end (places_from window (from + 1) items) ≡ before ++ at ∷ behind = rw fails at e in
            rw none (cut_from end (from + 1) k at items before behind next left)
        | inl here ↦ elim (cases_lt from end) [
          | inl l ↦
              let left : apart_from m end (places_from window (from + 1) items) ≡ before ++ at ∷ behind = rw (here, lt-ltb from end l) at e in
              let rest = cut_from end (from + 1) k at items before behind next left in
              elim (cases_Bool (begins window (item ∷ take k items))) [
                | inl begun ↦ rw (begun, lt-ltb from end l) rest
                | inr none ↦ rw none rest
              ]
          | inr l ↦
              let left : from ∷ apart_from m (from + m) (places_from window (from + 1) items) ≡ before ++ at ∷ behind = rw (here, le-ltb from end l) at e in
              hit before here l left next (λ bs f. cut_from (from + m) (from + 1) k at items bs behind next f)
        ]
      ]
    where
      not_within : begins window (item ∷ items) ≡ false → begins window (item ∷ take k items) ≡ false
      not_within fails =
          elim (cases_Bool (begins window (item ∷ take k items))) [
            | inl begun ↦ let both : true ≡ false = sym (begins_within window (item ∷ items) (suc k) begun) ∙ fails in absurd (cc)
            | inr none ↦ none
          ]

      hit : (bs : List ℕ) → begins window (item ∷ items) ≡ true → end ≤ from → from ∷ apart_from m (from + m) (places_from window (from + 1) items) ≡ bs ++ at ∷ behind → at ≡ (from + 1) + k
          → ((cs : List ℕ) → apart_from m (from + m) (places_from window (from + 1) items) ≡ cs ++ at ∷ behind → apart_from m (from + m) (places_from window (from + 1) (take k items)) ≡ cs)
          → apart_from m end (places_from window from (item ∷ take k items)) ≡ bs
      hit [] here l left next cut = let first = (heads from at (apart_from m (from + m) (places_from window (from + 1) items)) behind left).0 in absurd (omega (arith, first, next))
      hit (b ∷ bs) here l left next cut =
          let parts = heads from b (apart_from m (from + m) (places_from window (from + 1) items)) (bs ++ at ∷ behind) left in
          let past : from + m ≤ at =
          one_of (λ j. from + m ≤ j) bs at behind (subst (λ ps. All (λ j. from + m ≤ j) ps) parts.1 (from_end m (from + m) (places_from window (from + 1) items))) in
          let begun : begins window (item ∷ take k items) ≡ true = begins_cut window (item ∷ items) (suc k) (omega (arith, past, next)) here in
          let rest = cut bs parts.1 in
          rw (begun, le-ltb from end l) (ap (λ ps. from ∷ ps) rest ∙ ap (λ j. j ∷ bs) parts.0)

  -- what an occurrence among the first items of a list tells
  module _ (items : List Item) (first end at : ℕ) (before behind : List ℕ) (order : first ≤ end) (within : end ≤ length items)
      (is : occurrences_from window first (take end items) ≡ before ++ at ∷ behind) where
    abbrev part : List Item
    part = take end items

    pub behind_first : first ≤ at
    behind_first = one_of (λ k. first ≤ k) before at behind (subst (λ ps. All (λ k. first ≤ k) ps) is (from_place window first first (drop first part)))

    stands : Stands window (take end items) at
    stands =
        let long : first + length (drop first part) ≡ length part = omega (arith, order, within, length-drop first part, length-take end items) in
        one_of (Stands window part) before at behind
        (subst (λ ps. All (Stands window part) ps) is (still_all (Stands window part) m first (places_from window first (drop first part)) (places_stand window part first (drop first part) refl long)))

    pub ends_within : at + length window ≤ end
    ends_within = omega (arith, some, ap (λ (js : List Item). length js) stands.1, stands.0, length-take m (drop at part), length-drop at part, length-take end items)

    pub cut_before : occurrences_from window first (take at items) ≡ before
    cut_before =
        let past = behind_first in
        let fits = ends_within in
        let shorter : take (at - first) (drop first (take end items)) ≡ drop first (take at items) = taken first at end (at - first) items (omega (arith, past)) (omega (arith, fits)) in
        ap (λ (js : List Item). apart_from m first (places_from window first js)) (sym shorter)
        ∙ cut_from first first (at - first) at (drop first part) before behind (omega (arith, past)) is
      where
        taken : {X : Type 0} (a b c k : ℕ) (xs : List X) → b ≡ a + k → b ≤ c → take k (drop a (take c xs)) ≡ drop a (take b xs)
        taken zero b c k xs e q = let same : k ≡ b = omega (arith, e) in ap (λ j. take j (take c xs)) same ∙ take_less b c xs q
        taken (suc a) zero c k xs e q = absurd (omega (arith, e))
        taken (suc a) (suc b) zero k xs e q = absurd (omega (arith, q))
        taken (suc a) (suc b) (suc c) zero [] e q = refl
        taken (suc a) (suc b) (suc c) (suc k) [] e q = refl
        taken (suc a) (suc b) (suc c) k (x ∷ xs) e q = taken a b c k xs (omega (arith, e)) (omega (arith, q))

-- a window has no room among fewer items
none_short : (window : List Item) (at : ℕ) (items : List Item) → length items < length window → places_from window at items ≡ []
none_short window at [] short = refl
none_short window at (item ∷ items) short = rw (too_short window (item ∷ items) short) (none_short window (at + 1) items (omega (arith, short)))

pub none_between : (window items : List Item) (first end : ℕ) → first ≤ end → end ≤ length items → end - first < length window → occurrences_from window first (take end items) ≡ []
none_between window items first end order within short =
    let few : length (drop first (take end items)) < length window = omega (arith, short, order, length-drop first (take end items), length-take end items) in
    ap (apart_from (length window) first) (none_short window first (drop first (take end items)) few)
