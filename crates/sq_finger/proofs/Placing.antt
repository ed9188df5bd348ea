-- Windows.
use Rattle.std.proofs.Common.{◌≡◌, ◌↔◌, ℕ, zero, suc, ◌+◌, ◌-◌, ◌^◌, ◌<◌, ◌≤◌, inl, inr, ⊎_elim, Bool, true, false, true≢false, nat_le, if◌then◌else◌, List, [], ◌∷◌, ◌++◌, map, take, drop, length, get_or, Contains, Option, Some, slice_get, refl, sym, ap, ◌∙◌, subst, arith, add-one, drop-cons, length-append, length-drop, append_assoc}
use Rattle.std.proofs.lemmas.Bool.{cases_Bool, leb-true, le-leb}
use Rattle.std.proofs.lemmas.List.Elements.{Contains-append_left, Contains-append_right, Contains-append_cases}
use Rattle.std.proofs.Math.ListN.{drop_of_length-le}
use Rattle.std.proofs.lemmas.List.{append-nil, length-map, take_all}
use Rattle.std.proofs.lemmas.Option.{slice_get-get_or, get_or_from_slice_get}
use Rattle.std.specs.List.{list_all}
use Rattle.sq_graph.specs.declared.item.Item.{Item}
use Rattle.sq_graph.specs.Blocks.{items_of, items_of_blocks, items_of_bodies, all_items, HasBlock}
use Rattle.sq_graph.specs.Graph.{Block, Graph}
use Rattle.sq_graph.specs.Parts.{names_of}
use Rattle.sq_graph.specs.Rules.{IsGraph}
use Rattle.sq_finger.specs.declared.places.WindowAt.{WindowAt}
use Rattle.sq_finger.specs.Windows.{is_plain, is_window, places_from, places_in, places_of, IsWindow}
use Rattle.sq_finger.proofs.Grouping.{contains_at, at_contains}
use Rattle.sq_finger.proofs.Layouts.{names_are, named_items, items_within}

some_same : {X : Type 0} {x y : X} → Some x ≡ Some y → x ≡ y
some_same e = cc

-- ---- the loop over a block

module _ (n block : ℕ) where
  step_is : (b : Bool) (at : ℕ) (item : Item) (items : List Item) → is_window n (item ∷ items) ≡ b → (items' : List Item) → items' ≡ item ∷ items
      → places_from n block at items' ≡ (if b then record { block = block; at = at } ∷ places_from n block (at + 1) items else places_from n block (at + 1) items)
  step_is b at item items e items' f = rw (f, e) refl

  pub place_there : (items : List Item) (at : ℕ) (item : Item) → at < length items → get_or items at item ≡ item → is_window n (drop at items) ≡ true
      → places_from n block at (drop at items) ≡ record { block = block; at = at } ∷ places_from n block (at + 1) (drop (at + 1) items)
  place_there items at item l here e =
      let rest : drop at items ≡ item ∷ drop (at + 1) items = rw add-one (drop-cons items at item l ∙ ap (λ i. i ∷ drop (suc at) items) here) in
      step_is true at item (drop (at + 1) items) (sym (ap (is_window n) rest) ∙ e) (drop at items) rest

  pub place_absent : (items : List Item) (at : ℕ) (item : Item) → at < length items → get_or items at item ≡ item → is_window n (drop at items) ≡ false
      → places_from n block at (drop at items) ≡ places_from n block (at + 1) (drop (at + 1) items)
  place_absent items at item l here e =
      let rest : drop at items ≡ item ∷ drop (at + 1) items = rw add-one (drop-cons items at item l ∙ ap (λ i. i ∷ drop (suc at) items) here) in
      step_is false at item (drop (at + 1) items) (sym (ap (is_window n) rest) ∙ e) (drop at items) rest

-- ---- where windows are

module _ (n block : ℕ) where
  abbrev IsPlaceIn : ℕ → List Item → WindowAt → Type 0
  IsPlaceIn at items p = (k : ℕ) × ((p.block ≡ block) × ((p.at ≡ at + k) × (is_window n (drop k items) ≡ true)))

  place_found : (at : ℕ) (items : List Item) (p : WindowAt) (j : ℕ) → slice_get (places_from n block at items) j ≡ Some p → IsPlaceIn at items p
  place_found at [] p j e = absurd (cc)
  place_found at (item ∷ items) p j e =
      elim (cases_Bool (is_window n (item ∷ items))) [
        | inl t ↦ first j (rw t at e) t (λ i. place_found (at + 1) items p i)
        | inr f ↦ later (place_found (at + 1) items p j (rw f at e))
      ]
    where
      later : IsPlaceIn (at + 1) items p → IsPlaceIn at (item ∷ items) p
      later h = (suc h.0, (h.1.0, (let e = h.1.1.0 in omega arith, h.1.1.1)))

      first : (j : ℕ) → slice_get (record { block = block; at = at } ∷ places_from n block (at + 1) items) j ≡ Some p → is_window n (item ∷ items) ≡ true
          → ((i : ℕ) → slice_get (places_from n block (at + 1) items) i ≡ Some p → IsPlaceIn (at + 1) items p) → IsPlaceIn at (item ∷ items) p
      first zero e t rest = let s = some_same e in (0, (ap (λ q. q.block) (sym s), (ap (λ q. q.at) (sym s) ∙ omega arith, t)))
      first (suc i) e t rest = later (rest i e)

  place_listed : (at : ℕ) (items : List Item) (k m : ℕ) → k < length items → m ≡ at + k → is_window n (drop k items) ≡ true → Contains (places_from n block at items) (record { block = block; at = m })
  place_listed at [] k m l e w = absurd (omega arith)
  place_listed at (item ∷ items) zero m l e w =
      let s : m ≡ at = omega arith in
      rw w (at_contains (record { block = block; at = at } ∷ places_from n block (at + 1) items) 0 (record { block = block; at = m }) (ap (λ a. Some (record { block = block; at = a })) (sym s)))
  place_listed at (item ∷ items) (suc k) m l e w =
      let rest = place_listed (at + 1) items k m (omega arith) (omega arith) w in
      elim (cases_Bool (is_window n (item ∷ items))) [
        | inl t ↦ rw t (Contains-append_right (record { block = block; at = at } ∷ []) (places_from n block (at + 1) items) (record { block = block; at = m }) rest)
        | inr f ↦ rw f rest
      ]

  length_places : (at : ℕ) (items : List Item) → length (places_from n block at items) ≤ length items
  length_places at [] = omega arith
  length_places at (item ∷ items) =
      let rest = length_places (at + 1) items in
      elim (cases_Bool (is_window n (item ∷ items))) [
        | inl t ↦ rw t (omega arith)
        | inr f ↦ rw f (omega arith)
      ]

-- how many items lists have
unfoldable pub total : List (List Item) → ℕ
total [] = 0
total (items ∷ rest) = length items + total rest

pub total_of_blocks : (blocks : List Block) → total (map (λ b. b.items) blocks) ≡ length (items_of_blocks blocks)
unfolding total
total_of_blocks [] = refl
total_of_blocks (b ∷ blocks) = ap (λ k. length b.items + k) (total_of_blocks blocks) ∙ sym (length-append b.items (items_of_blocks blocks))

module _ (n : ℕ) where
  pub window_parts : (items : List Item) → is_window n items ≡ true → (n ≤ length items) × (list_all is_plain (take n items) ≡ true)
  window_parts items e =
      ⊎_elim
      (λ t. (leb-true n (length items) t, (let f : list_all is_plain (take n items) ≡ true = rw t at e in f)))
      (λ f. absurd (let h : false ≡ true = rw f at e in true≢false (sym h)))
      (cases_Bool (nat_le n (length items)))

  pub window_whole : (items : List Item) → n ≤ length items → list_all is_plain (take n items) ≡ true → is_window n items ≡ true
  window_whole items l e = rw (le-leb n (length items) l, e) refl

module _ (g : Graph) (n : ℕ) where
  in_found : (names : List ℕ) (p : WindowAt) → Contains (places_in g n names) p → (name : ℕ) × (Contains names name × Contains (places_from n name 0 (items_of g name)) p)
  in_found [] p c = absurd (let h = contains_at [] p c in let e = h.1 in cc)
  in_found (name ∷ names) p c =
      ⊎_elim
      (λ here. (name, (at_contains (name ∷ names) 0 name refl, here)))
      (λ there. let h = in_found names p there in (h.0, (Contains-append_right (name ∷ []) names h.0 h.1.0, h.1.1)))
      (Contains-append_cases (places_from n name 0 (items_of g name)) (places_in g n names) p c)

  in_listed : (names : List ℕ) (p : WindowAt) (name i : ℕ) → slice_get names i ≡ Some name → Contains (places_from n name 0 (items_of g name)) p → Contains (places_in g n names) p
  in_listed [] p name i e c = absurd (cc)
  in_listed (x ∷ names) p name zero e c =
      let s : x ≡ name = some_same e in
      Contains-append_left (places_from n x 0 (items_of g x)) (places_in g n names) p (subst (λ y. Contains (places_from n y 0 (items_of g y)) p) (sym s) c)
  in_listed (x ∷ names) p name (suc i) e c = Contains-append_right (places_from n x 0 (items_of g x)) (places_in g n names) p (in_listed names p name i e c)

  places_total : (names : List ℕ) → length (places_in g n names) ≤ total (map (λ name. items_of g name) names)
  unfolding total
  places_total [] = omega arith
  places_total (name ∷ names) =
      let rest = places_total names in
      let here = length_places n name 0 (items_of g name) in
      let both = length-append (places_from n name 0 (items_of g name)) (places_in g n names) in omega arith

  pub few_places : IsGraph g → length (places_of g n) ≤ length (items_of_blocks g.blocks)
  few_places rules =
      let items = ap total (named_items g [] g.blocks rules refl) ∙ total_of_blocks g.blocks in
      let few = places_total (names_of g) in omega arith

  pub places_are : IsGraph g → 1 ≤ n → (p : WindowAt) → Contains (places_of g n) p ↔ IsWindow g n p
  places_are rules some p = (
    λ c.
        let h = in_found (names_of g) p c in
        let j = contains_at (places_from n h.0 0 (items_of g h.0)) p h.1.1 in
        let k = place_found n h.0 0 (items_of g h.0) p j.0 j.1 in
        let block : h.0 ≡ p.block = sym k.1.0 in
        let at : k.0 ≡ p.at = let e = k.1.1.0 in omega arith in
        let w : is_window n (drop p.at (items_of g p.block)) ≡ true = subst (λ a. is_window n (drop a (items_of g p.block)) ≡ true) at (subst (λ b. is_window n (drop k.0 (items_of g b)) ≡ true) block k.1.1.1) in
        let parts = window_parts n (drop p.at (items_of g p.block)) w in
        record {
          block = subst (HasBlock g) block ((names_are g h.0).0 h.1.0);
          within = let l = length-drop p.at (items_of g p.block) in let m = parts.0 in omega arith;
          plain = parts.1;
        },
    λ w.
        let l = length-drop p.at (items_of g p.block) in
        let within = w.within in
        let is = window_whole n (drop p.at (items_of g p.block)) (omega arith) w.plain in
        let at = contains_at (names_of g) p.block ((names_are g p.block).1 w.block) in
        in_listed (names_of g) p p.block at.0 at.1 (place_listed n p.block 0 (items_of g p.block) p.at p.at (omega arith) (omega arith) is),
  )

  pub listed_window : IsGraph g → 1 ≤ n → (places : List WindowAt) (i : ℕ) (d : WindowAt) → places ≡ places_of g n → i < length places → IsWindow g n (get_or places i d)
  listed_window rules some places i d e l = subst (λ ps. i < length ps → IsWindow g n (get_or ps i d)) (sym e) (λ m. (places_are rules some (get_or (places_of g n) i d)).0 (i, m, get_or_any (places_of g n) i d m)) l
    where
      get_or_any : (ps : List WindowAt) (i : ℕ) (d : WindowAt) → i < length ps → get_or ps i (get_or ps i d) ≡ get_or ps i d
      get_or_any ps i d m = get_or_from_slice_get ps i (get_or ps i d) (get_or ps i d) (slice_get-get_or ps i d m)

  -- the places of one more block
  pub places_step : (done : List WindowAt) (names : List ℕ) (k name : ℕ) → k < length names → get_or names k name ≡ name
      → (done ++ places_from n name 0 (items_of g name)) ++ places_in g n (drop (k + 1) names) ≡ done ++ places_in g n (drop k names)
  places_step done names k name l here =
      let rest : drop k names ≡ name ∷ drop (k + 1) names = rw add-one (drop-cons names k name l ∙ ap (λ i. i ∷ drop (suc k) names) here) in
      append_assoc done (places_from n name 0 (items_of g name)) (places_in g n (drop (k + 1) names)) ∙ ap (λ ns. done ++ places_in g n ns) (sym rest)

  pub places_end : (done : List WindowAt) (names : List ℕ) (k : ℕ) → length names ≤ k → done ++ places_in g n (drop k names) ≡ places_of g n → done ≡ places_of g n
  places_end done names k l e = sym (append-nil done) ∙ ap (λ ns. done ++ places_in g n ns) (sym (drop_of_length-le names l)) ∙ e

  pub few_keys : {X : Type 0} (keys : List (Option X)) (key : WindowAt → Option X) (spare : ℕ) → IsGraph g → length (all_items g) + spare < 2 ^ 29 → keys ≡ map key (places_of g n) → length keys < 2 ^ 32
  few_keys keys key spare rules small e =
      let many = ap length e ∙ length-map (places_of g n) key in
      let few = few_places rules in
      let all = length-append (items_of_blocks g.blocks) (items_of_bodies g.procedures) in omega arith

pub few_items : (g : Graph) (name spare : ℕ) → HasBlock g name → length (all_items g) + spare < 2 ^ 29 → length (items_of g name) < 2 ^ 29
few_items g name spare there small =
    let few = items_within g name there in
    let all = length-append (items_of_blocks g.blocks) (items_of_bodies g.procedures) in omega arith

-- a part up to the end of the list
pub to_end : {X : Type 0} (xs : List X) (k : ℕ) → take (length xs - k) (drop k xs) ≡ drop k xs
to_end xs k = take_all (length xs - k) (drop k xs) (let l = length-drop k xs in omega arith)
