-- Where a window stands once spans of other items became calls: where it stood, moved along by what became less ahead of it.
use Rattle.std.proofs.Common.{◌≡◌, ℕ, zero, suc, ◌+◌, ◌-◌, ◌<◌, ◌≤◌, ◌⊎◌, Bool, true, false, if◌then◌else◌, List, [], ◌∷◌, map, take, drop, length, get_or, refl, sym, ap, ◌∙◌, subst, arith, inl, inr}
use Rattle.std.specs.List.{All, filter, list_all, count_by}
use Rattle.std.proofs.lemmas.Bool.{cases_Bool, cases_lt, lt-ltb, le-ltb}
use Rattle.std.proofs.lemmas.List.{length-drop, get_or-drop, take_all, length-take}
use Rattle.std.proofs.lemmas.List.Elements.{All-nil, All-cons, All-head, All-tail, All-weaker}
use Rattle.std.proofs.lemmas.List.Sums.{count_by_more_yes, count_by_more_no}
use Rattle.sq_graph.specs.declared.item.Item.{Item}
use Rattle.sq_graph.specs.declared.item.Item.TheVariants.{Out}
use Rattle.sq_graph.specs.declared.calls.ItemFate.{ItemFate}
use Rattle.sq_graph.specs.declared.calls.ItemFate.TheVariants.{Stays, Calls, Goes}
use Rattle.sq_graph.specs.Calls.{met_items, is_free, stands, now_at, are_free, AreSpansFrom, AreSpans}
use Rattle.sq_graph.specs.Uses.{item_calls}
use Rattle.sq_graph.proofs.Spans.{same_items}
use Rattle.sq_outline.specs.WindowsPlaces.{begins, places_from, apart_from, occurrences_in}
use Rattle.sq_outline.proofs.Plainness.{NoCalls}
use Rattle.sq_outline.proofs.WindowsStanding.{begins_is}

-- WHERE A WINDOW STANDS

-- items without calls that stand there then have stayed
pub have_stayed : (w : List Item) (fates : List ItemFate) (items : List Item) → NoCalls w → length fates ≡ length items → AreSpansFrom false fates → take (length w) (met_items fates items) ≡ w → list_all is_free (take (length w) fates) ≡ true
have_stayed [] fates items none many spans is = refl
have_stayed (y ∷ w) [] items none many spans is = absurd (cc)
have_stayed (y ∷ w) (f ∷ fates) [] none many spans is = absurd (omega (arith, many))
have_stayed (y ∷ w) (Stays ∷ fates) (x ∷ items) none many spans is =
    let rest : take (length w) (met_items fates items) ≡ w = cc in
    have_stayed w fates items (All-tail (λ item. item_calls item ≡ []) y w none) (omega (arith, many)) spans rest
have_stayed (y ∷ w) (Calls p ∷ fates) (x ∷ items) none many spans is =
    let same : Out p ≡ y = cc in
    let calls : item_calls (Out p) ≡ [] = ap item_calls same ∙ All-head (λ item. item_calls item ≡ []) y w none in
    absurd (cc)
have_stayed (y ∷ w) (Goes ∷ fates) (x ∷ items) none many spans is = let never : false ≡ true = spans.0 in absurd (cc)

module _ (w : List Item) (none : NoCalls w) (some : 1 ≤ length w) where
  long_enough : (w : List Item) → 1 ≤ length w → (y : Item) × (v : List Item) × (w ≡ y ∷ v)
  long_enough [] l = absurd (omega (arith, l))
  long_enough (y ∷ v) l = (y, v, refl)

  -- it doesn't begin with a call
  no_call : (p : ℕ) (items : List Item) → begins w (Out p ∷ items) ≡ false
  no_call p items =
      elim (cases_Bool (begins w (Out p ∷ items))) [
        | inl begun ↦
            let parts = long_enough w some in
            let is : take (length (parts.0 ∷ parts.1)) (Out p ∷ items) ≡ parts.0 ∷ parts.1 = subst (λ (v : List Item). take (length v) (Out p ∷ items) ≡ v) parts.2 ((begins_is w (Out p ∷ items)).0 begun) in
            let same : Out p ≡ parts.0 = cc in
            let free : item_calls parts.0 ≡ [] = All-head (λ item. item_calls item ≡ []) parts.0 parts.1 (subst NoCalls parts.2 none) in
            let calls : item_calls (Out p) ≡ [] = ap item_calls same ∙ free in
            absurd (cc)
        | inr fails ↦ fails
      ]

  -- where an item stays, the window stands then if it stood and its items stay
  stands_then : (fates : List ItemFate) (x : Item) (items : List Item) → length fates ≡ length items → AreSpansFrom false fates
      → ((begins w (x ∷ met_items fates items) ≡ true) × (begins w (x ∷ items) ≡ true) × (list_all is_free (take (length w) (Stays ∷ fates)) ≡ true))
      ⊎ ((begins w (x ∷ met_items fates items) ≡ false) × ((begins w (x ∷ items) ≡ false) ⊎ (list_all is_free (take (length w) (Stays ∷ fates)) ≡ false)))
  stands_then fates x items many spans =
      let F : List ItemFate = Stays ∷ fates in
      let long : length (Stays ∷ fates) ≡ length (x ∷ items) = ap suc many in
      elim (cases_Bool (begins w (x ∷ met_items fates items))) [
        | inl begun ↦
            let is = (begins_is w (x ∷ met_items fates items)).0 begun in
            let stay : list_all is_free (take (length w) (Stays ∷ fates)) ≡ true = have_stayed w (Stays ∷ fates) (x ∷ items) none long spans is in
            inl (begun, (begins_is w (x ∷ items)).1 (sym (same_items (length w) (Stays ∷ fates) (x ∷ items) long stay) ∙ is), stay)
        | inr fails ↦
            inr (
              fails,
              elim (cases_Bool (list_all is_free (take (length w) (Stays ∷ fates)))) [
                | inr taken ↦ inr taken
                | inl stay ↦
                    elim (cases_Bool (begins w (x ∷ items))) [
                      | inr other ↦ inl other
                      | inl here ↦
                          let stood : begins w (x ∷ met_items fates items) ≡ true = (begins_is w (x ∷ met_items fates items)).1 (same_items (length w) (Stays ∷ fates) (x ∷ items) long stay ∙ (begins_is w (x ∷ items)).0 here) in
                          let both : true ≡ false = sym stood ∙ fails in absurd (cc)
                    ]
              ],
            )
      ]

  module _ (all : List ItemFate) where
    abbrev later : List ℕ → List ℕ
    later places = map (now_at all) (filter (are_free (length w) all) places)

    next_fates : (at : ℕ) (f : ItemFate) (fates : List ItemFate) → drop at all ≡ f ∷ fates → (drop (at + 1) all ≡ fates) × (at < length all) × (get_or all at Stays ≡ f)
    next_fates at f fates is = go all at f fates is
      where
        go : (fs : List ItemFate) (k : ℕ) (f : ItemFate) (rest : List ItemFate) → drop k fs ≡ f ∷ rest → (drop (k + 1) fs ≡ rest) × (k < length fs) × (get_or fs k Stays ≡ f)
        go [] zero f rest e = absurd (cc)
        go [] (suc k) f rest e = absurd (cc)
        go (g ∷ fs) zero f rest e = let t : fs ≡ rest = cc in let h : g ≡ f = cc in (t, omega arith, h)
        go (g ∷ fs) (suc k) f rest e =
            let r = go fs k f rest e in
            let n : suc k + 1 ≡ suc (k + 1) = omega arith in
            (ap (λ m. drop m (g ∷ fs)) n ∙ r.0, omega (arith, r.1), r.2)

    passed : (at : ℕ) (places : List ℕ) → are_free (length w) all at ≡ false → later (at ∷ places) ≡ later places
    passed at places taken = rw taken refl

    -- a place that was taken is none of those
    skipped : (at : ℕ) (b : Bool) (places : List ℕ) → are_free (length w) all at ≡ false → later (if b then at ∷ places else places) ≡ later places
    skipped at true places taken = passed at places taken
    skipped at false places taken = refl

    taken_first : (f : ItemFate) (at : ℕ) (fates : List ItemFate) → drop at all ≡ f ∷ fates → is_free f ≡ false → are_free (length w) all at ≡ false
    taken_first f at fates is goes =
        let parts = long_enough w some in
        ap (λ (fs : List ItemFate). list_all is_free (take (length w) fs)) is ∙ ap (λ (v : List Item). list_all is_free (take (length v) (f ∷ fates))) parts.2 ∙ rw goes refl

    -- the window stands then where its items stay
    pub places_then : (taken : Bool) (fates : List ItemFate) (items : List Item) (at : ℕ) → drop at all ≡ fates → length fates ≡ length items → AreSpansFrom taken fates → places_from w (now_at all at) (met_items fates items) ≡ map (now_at all) (filter (are_free (length w) all) (places_from w at items))
    places_then taken [] [] at is many spans = refl
    places_then taken [] (x ∷ items) at is many spans = absurd (omega (arith, many))
    places_then taken (f ∷ fates) [] at is many spans = absurd (omega (arith, many))
    places_then taken (Stays ∷ fates) (x ∷ items) at is many spans =
        let next = next_fates at Stays fates is in
        let one : now_at all (at + 1) ≡ now_at all at + 1 = count_by_more_yes stands all at Stays next.1 (ap stands next.2) in
        let rest : places_from w (now_at all at + 1) (met_items fates items) ≡ later (places_from w (at + 1) items) = ap (λ k. places_from w k (met_items fates items)) (sym one) ∙ places_then false fates items (at + 1) next.0 (omega (arith, many)) spans in
        elim (stands_then fates x items (omega (arith, many)) spans) [
          | inl both ↦
              let free : are_free (length w) all at ≡ true = ap (λ (fs : List ItemFate). list_all is_free (take (length w) fs)) is ∙ both.2 in
              rw (both.0, both.1, free) (ap (λ ps. now_at all at ∷ ps) rest)
          | inr none_then ↦
              elim none_then.1 [
                | inl other ↦ rw (none_then.0, other) rest
                | inr gone ↦
                    let took : are_free (length w) all at ≡ false = ap (λ (fs : List ItemFate). list_all is_free (take (length w) fs)) is ∙ gone in
                    rw none_then.0 (rest ∙ sym (skipped at (begins w (x ∷ items)) (places_from w (at + 1) items) took))
              ]
        ]
    places_then taken (Calls p ∷ fates) (x ∷ items) at is many spans =
        let next = next_fates at (Calls p) fates is in
        let one : now_at all (at + 1) ≡ now_at all at + 1 = count_by_more_yes stands all at Stays next.1 (ap stands next.2) in
        let rest : places_from w (now_at all at + 1) (met_items fates items) ≡ later (places_from w (at + 1) items) = ap (λ k. places_from w k (met_items fates items)) (sym one) ∙ places_then true fates items (at + 1) next.0 (omega (arith, many)) spans in
        rw (no_call p (met_items fates items)) (rest ∙ sym (skipped at (begins w (x ∷ items)) (places_from w (at + 1) items) (taken_first (Calls p) at fates is refl)))
    places_then taken (Goes ∷ fates) (x ∷ items) at is many spans =
        let next = next_fates at Goes fates is in
        let none_more : now_at all (at + 1) ≡ now_at all at = count_by_more_no stands all at Stays next.1 (ap stands next.2) in
        ap (λ k. places_from w k (met_items fates items)) (sym none_more) ∙ places_then true fates items (at + 1) next.0 (omega (arith, many)) spans.1
        ∙ sym (skipped at (begins w (x ∷ items)) (places_from w (at + 1) items) (taken_first Goes at fates is refl))

  -- ITEMS THAT STAY

  each_free : (n : ℕ) (fs : List ItemFate) (k : ℕ) → list_all is_free (take n fs) ≡ true → k < n → k < length fs → stands (get_or fs k Stays) ≡ true
  each_free zero fs k free below inside = absurd (omega (arith, below))
  each_free (suc n) [] k free below inside = absurd (omega (arith, inside))
  each_free (suc n) (Stays ∷ fs) zero free below inside = refl
  each_free (suc n) (Calls p ∷ fs) zero free below inside = refl
  each_free (suc n) (Goes ∷ fs) zero free below inside = absurd (cc)
  each_free (suc n) (Stays ∷ fs) (suc k) free below inside = each_free n fs k free (omega (arith, below)) (omega (arith, inside))
  each_free (suc n) (Calls p ∷ fs) (suc k) free below inside = absurd (cc)
  each_free (suc n) (Goes ∷ fs) (suc k) free below inside = absurd (cc)

  module _ (all : List ItemFate) (n : ℕ) where
    -- n items from a place on are there and stay
    abbrev pub Fits : ℕ → Type 0
    Fits at = (are_free n all at ≡ true) × (at + n ≤ length all)

    pub now_within : (at k : ℕ) → Fits at → k ≤ n → now_at all (at + k) ≡ now_at all at + k
    now_within at zero fits below = let e : at + 0 ≡ at = omega arith in let f : now_at all at ≡ now_at all at + 0 = omega arith in ap (λ m. now_at all m) e ∙ f
    now_within at (suc k) fits below =
        let there : at + k < length all = let l = fits.1 in omega (arith, l, below) in
        let e : at + suc k ≡ at + k + 1 = omega arith in
        let inside : k < length (drop at all) = omega (arith, there, length-drop at all) in
        let stay : stands (get_or all (at + k) Stays) ≡ true = ap stands (sym (get_or-drop at all k Stays)) ∙ each_free n (drop at all) k fits.0 (omega (arith, below)) inside in
        let more = count_by_more_yes stands all (at + k) Stays there stay in
        let rest = now_within at k fits (omega (arith, below)) in
        ap (λ m. now_at all m) e ∙ omega (arith, more, rest)

    later_more : (at k : ℕ) → now_at all at ≤ now_at all (at + k)
    later_more at zero = let e : at ≡ at + 0 = omega arith in omega (arith, ap (λ m. now_at all m) e)
    later_more at (suc k) =
        let e : at + suc k ≡ at + k + 1 = omega arith in
        let here = ap (λ m. now_at all m) e in
        let rest = later_more at k in
        elim (cases_lt (at + k) (length all)) [
          | inl inside ↦
              elim (cases_Bool (stands (get_or all (at + k) Stays))) [
                | inl stay ↦ omega (arith, here, rest, count_by_more_yes stands all (at + k) Stays inside stay)
                | inr goes ↦ omega (arith, here, rest, count_by_more_no stands all (at + k) Stays inside goes)
              ]
          | inr past ↦
              let a = take_all (at + k) all past in
              let b = take_all (at + k + 1) all (omega (arith, past)) in
              omega (arith, here, rest, ap (λ fs. count_by stands fs) (a ∙ sym b))
        ]

    -- two places overlap then where they did
    module _ (some_items : 1 ≤ n) where
      pub before_then : (p q : ℕ) → Fits p → q < p + n → now_at all q < now_at all p + n
      before_then p q fits near =
          elim (cases_lt p q) [
            | inl behind ↦
                let e : p + (q - p) ≡ q = omega (arith, behind) in
                let k : q - p ≤ n = omega (arith, near, behind) in
                let close : q - p < n = omega (arith, near, behind) in
                omega (arith, now_within p (q - p) fits k, close, ap (λ m. now_at all m) e)
            | inr ahead ↦
                let e : q + (p - q) ≡ p = omega (arith, ahead) in
                omega (arith, later_more q (p - q), some_items, ap (λ m. now_at all m) e)
          ]

      behind_then : (p q : ℕ) → Fits p → p + n ≤ q → now_at all p + n ≤ now_at all q
      behind_then p q fits far =
          let e : p + n + (q - (p + n)) ≡ q = omega (arith, far) in
          omega (arith, now_within p n fits (omega arith), later_more (p + n) (q - (p + n)), ap (λ m. now_at all m) e)

      apart_behind : (p : ℕ) (places : List ℕ) → Fits p → All Fits places → apart_from n (now_at all p + n) (map (now_at all) places) ≡ map (now_at all) (apart_from n (p + n) places)
      apart_behind p [] fits all_fit = refl
      apart_behind p (q ∷ places) fits all_fit =
          elim (cases_lt q (p + n)) [
            | inl near ↦ rw (lt-ltb q (p + n) near, lt-ltb (now_at all q) (now_at all p + n) (before_then p q fits near)) (apart_behind p places fits (All-tail Fits q places all_fit))
            | inr far ↦
                rw (le-ltb q (p + n) far, le-ltb (now_at all q) (now_at all p + n) (behind_then p q fits far))
                (ap (λ ps. now_at all q ∷ ps) (apart_behind q places (All-head Fits q places all_fit) (All-tail Fits q places all_fit)))
          ]

      -- those of the places that don't overlap the one before are then the same
      pub apart_then : (places : List ℕ) → All Fits places → apart_from n 0 (map (now_at all) places) ≡ map (now_at all) (apart_from n 0 places)
      apart_then [] all_fit = refl
      apart_then (q ∷ places) all_fit =
          rw (le-ltb q 0 (omega arith), le-ltb (now_at all q) 0 (omega arith)) (ap (λ ps. now_at all q ∷ ps) (apart_behind q places (All-head Fits q places all_fit) (All-tail Fits q places all_fit)))

-- THE OCCURRENCES

module _ (w : List Item) (none : NoCalls w) (some : 1 ≤ length w) (fates : List ItemFate) (items : List Item) (many : length fates ≡ length items) (spans : AreSpans fates) where
  -- the window stands within the items
  stand_within : (at : ℕ) (rest : List Item) → at + length rest ≡ length items → All (λ p. p + length w ≤ length items) (places_from w at rest)
  stand_within at [] long = All-nil (λ p. p + length w ≤ length items)
  stand_within at (x ∷ rest) long =
      let later = stand_within (at + 1) rest (omega (arith, long)) in
      elim (cases_Bool (begins w (x ∷ rest))) [
        | inl here ↦
            let is = (begins_is w (x ∷ rest)).0 here in
            let inside : at + length w ≤ length items = omega (arith, long, ap length is, length-take (length w) (x ∷ rest)) in
            rw here (All-cons (λ p. p + length w ≤ length items) at (places_from w (at + 1) rest) inside later)
        | inr fails ↦ rw fails later
      ]

  all_filtered : (P : ℕ → Type 0) (f : ℕ → Bool) (ps : List ℕ) → All P ps → All (λ p. (f p ≡ true) × P p) (filter f ps)
  all_filtered P f [] all = All-nil (λ p. (f p ≡ true) × P p)
  all_filtered P f (p ∷ ps) all =
      let rest = all_filtered P f ps (All-tail P p ps all) in
      elim (cases_Bool (f p)) [
        | inl keeps ↦ rw keeps (All-cons (λ q. (f q ≡ true) × P q) p (filter f ps) (keeps, All-head P p ps all) rest)
        | inr goes ↦ rw goes rest
      ]

  abbrev pub free_places : List ℕ
  free_places = filter (are_free (length w) fates) (places_from w 0 items)

  all_fit : All (Fits w none some fates (length w)) (filter (are_free (length w) fates) (places_from w 0 items))
  all_fit =
      all_filtered (λ p. p + length w ≤ length fates) (are_free (length w) fates) (places_from w 0 items)
      (All-weaker (λ p. p + length w ≤ length items) (λ p. p + length w ≤ length fates) (λ p l. omega (arith, l, many)) (places_from w 0 items) (stand_within 0 items (omega arith)))

  -- the occurrences then are those of the places where no item was taken
  pub occurrences_then : occurrences_in w (met_items fates items) ≡ map (now_at fates) (apart_from (length w) 0 (filter (are_free (length w) fates) (places_from w 0 items)))
  occurrences_then =
      ap (apart_from (length w) 0) (places_then w none some fates false fates items 0 refl many spans)
      ∙ apart_then w none some fates (length w) some (filter (are_free (length w) fates) (places_from w 0 items)) all_fit
