-- The calls of a window's occurrences come to the same in any order of blocks.
use Rattle.std.proofs.Common.{◌≡◌, ◌≢◌, ℕ, nat_eq, ◌==◌, false, List, [], ◌∷◌, ◌++◌, map, reverse, length, inl, inr, refl, sym, ap, ◌∙◌, subst, append_assoc}
use Rattle.std.specs.List.{All, IsDistinct}
use Rattle.std.proofs.lemmas.Bool.{cases_Bool, ne_eqb, eqb-true}
use Rattle.std.proofs.lemmas.List.{append-nil, map-append, reverse-append}
use Rattle.std.proofs.lemmas.List.Elements.{All-head, All-tail, All-weaker, All-from_recursion}
use Rattle.std.proofs.lemmas.Map.Keys.{IsDistinct-head, IsDistinct-tail}
use Rattle.sq_graph.specs.declared.item.Item.{Item}
use Rattle.sq_graph.specs.declared.item.Item.TheVariants.{Out}
use Rattle.sq_graph.specs.Graph.{Block, Graph}
use Rattle.sq_graph.specs.Blocks.{items_of, body_of}
use Rattle.sq_graph.specs.Operations.{with_blocks, replaced_items}
use Rattle.law_patch.specs.Calls.{called_there}
use Rattle.sq_outline.specs.declared.sites.Site.{Site}
use Rattle.sq_outline.specs.Sites.{EndsBefore, AreApart, called_each}
use Rattle.sq_outline.specs.WindowsPlaces.{places_from, occurrences_in, in_block, occurrences_among, calls_among}
use Rattle.sq_outline.proofs.WindowsApart.{reversed_cons, all_reversed, all_mapped, each_all, spaced, block_apart, apart_append, elsewhere_all}
use Rattle.sq_outline.proofs.WindowsBlocks.{later_each}

-- CALLS IN DIFFERENT BLOCKS

swapped : (f h : List Item → List Item) (bs : List Block) (m n : ℕ) → m ≢ n
    → with_blocks (λ b. record b { items = h b.items } ∷ []) (with_blocks (λ b. record b { items = f b.items } ∷ []) bs m) n
    ≡ with_blocks (λ b. record b { items = f b.items } ∷ []) (with_blocks (λ b. record b { items = h b.items } ∷ []) bs n) m
swapped f h [] m n apart = refl
swapped f h (b ∷ bs) m n apart =
    elim (cases_Bool (b.name == m)) [
      | inl here ↦ let other : (b.name == n) ≡ false = ne_eqb b.name n (λ same. apart (sym (eqb-true b.name m here) ∙ same)) in rw (here, other, here) refl
      | inr ahead ↦ elim (cases_Bool (b.name == n)) [ inl there ↦ rw (ahead, there, ahead) refl | inr neither ↦ rw (ahead, neither, ahead) (ap (λ cs. b ∷ cs) (swapped f h bs m n apart)) ]
    ]

module _ (procedure : ℕ) where
  abbrev called_items : Graph → Site → List Item → List Item
  called_items g site items = replaced_items items site.at (length (body_of g procedure)) (Out procedure ∷ [])

  two_swapped : (x y : Site) (g : Graph) → x.block ≢ y.block
      → called_there (called_there g x.block x.at procedure) y.block y.at procedure ≡ called_there (called_there g y.block y.at procedure) x.block x.at procedure
  two_swapped x y g apart = ap (λ (bs : List Block). record g { blocks = bs }) (swapped (called_items g x) (called_items g y) g.blocks x.block y.block apart)

  one_later : (x : Site) (ys : List Site) (g : Graph) → All (λ y. y.block ≢ x.block) ys → called_each (x ∷ ys) procedure g ≡ called_each (ys ++ x ∷ []) procedure g
  one_later x [] g all = refl
  one_later x (y ∷ ys) g all =
      ap (λ (k : Graph). called_each ys procedure k) (two_swapped x y g (λ same. All-head (λ z. z.block ≢ x.block) y ys all (sym same)))
      ∙ one_later x ys (called_there g y.block y.at procedure) (All-tail (λ z. z.block ≢ x.block) y ys all)

  all_later : (xs ys : List Site) (g : Graph) → All (λ x. All (λ y. y.block ≢ x.block) ys) xs → called_each (xs ++ ys) procedure g ≡ called_each (ys ++ xs) procedure g
  all_later [] ys g all = ap (λ ss. called_each ss procedure g) (sym (append-nil ys))
  all_later (x ∷ xs) ys g all =
      all_later xs ys (called_there g x.block x.at procedure) (All-tail (λ z. All (λ y. y.block ≢ z.block) ys) x xs all)
      ∙ later_each (x ∷ ys) xs procedure g
      ∙ ap (λ (k : Graph). called_each xs procedure k) (one_later x ys g (All-head (λ z. All (λ y. y.block ≢ z.block) ys) x xs all))
      ∙ sym (later_each (ys ++ x ∷ []) xs procedure g)
      ∙ ap (λ ss. called_each ss procedure g) (append_assoc ys (x ∷ []) xs)

-- THE OCCURRENCES FROM THE LAST ONE ON

map_reversed : (m : ℕ) (ps : List ℕ) → reverse (map (in_block m) ps) ≡ map (in_block m) (reverse ps)
map_reversed m [] = refl
map_reversed m (p ∷ ps) =
    reversed_cons (in_block m p) (map (in_block m) ps)
    ∙ ap (λ (ss : List Site). ss ++ in_block m p ∷ []) (map_reversed m ps)
    ∙ sym (map-append (in_block m) (reverse ps) (p ∷ []))
    ∙ ap (map (in_block m)) (sym (reversed_cons p ps))

module _ (g : Graph) (w : List Item) where
  abbrev here : ℕ → List Site
  here m = map (in_block m) (reverse (occurrences_in w (items_of g m)))

  abbrev back : List ℕ → List Site
  back names = reverse (occurrences_among g w names)

  -- the first block's come last
  first_last : (m : ℕ) (names : List ℕ) → reverse (occurrences_among g w (m ∷ names)) ≡ reverse (occurrences_among g w names) ++ map (in_block m) (reverse (occurrences_in w (items_of g m)))
  first_last m names =
      reverse-append (map (in_block m) (occurrences_in w (items_of g m))) (occurrences_among g w names)
      ∙ ap (λ (ss : List Site). reverse (occurrences_among g w names) ++ ss) (map_reversed m (occurrences_in w (items_of g m)))

  others : (m : ℕ) (names : List ℕ) → IsDistinct nat_eq (m ∷ names) → All (λ site. site.block ≢ m) (back names)
  others m names distinct =
      all_reversed {X = Site} (λ site. site.block ≢ m) (occurrences_among g w names)
      (elsewhere_all g w m names (All-from_recursion (λ other. nat_eq m other ≡ false) names (IsDistinct-head nat_eq m names distinct)))

  pub any_order : (names : List ℕ) → IsDistinct nat_eq names → (procedure : ℕ) (h : Graph) → called_each (reverse (occurrences_among g w names)) procedure h ≡ called_each (calls_among g w names) procedure h
  any_order [] distinct procedure h = refl
  any_order (m ∷ names) distinct procedure h =
      let places = reverse (occurrences_in w (items_of g m)) in
      let apart = others m names distinct in
      ap (λ ss. called_each ss procedure h) (first_last m names)
      ∙ sym (all_later procedure (here m) (back names) h
      (all_mapped {Y = Site} (λ x. All (λ y. y.block ≢ x.block) (back names)) (in_block m) places (each_all {P = λ at. All (λ (y : Site). y.block ≢ m) (back names)} places (λ at. apart))))
      ∙ later_each (here m) (back names) procedure h
      ∙ any_order names (IsDistinct-tail nat_eq m names distinct) procedure (called_each (here m) procedure h)
      ∙ sym (later_each (here m) (calls_among g w names) procedure h)

  pub back_apart : (n : ℕ) (names : List ℕ) → n ≡ length w → IsDistinct nat_eq names → AreApart n (reverse (occurrences_among g w names))
  back_apart n [] is distinct = tt
  back_apart n (m ∷ names) is distinct =
      let places = reverse (occurrences_in w (items_of g m)) in
      let own : AreApart n (here m) = subst (λ k. AreApart k (here m)) (sym is) (block_apart (length w) m (occurrences_in w (items_of g m)) (spaced (length w) 0 (places_from w 0 (items_of g m)))) in
      subst (AreApart n) (sym (first_last m names))
      (apart_append n (back names) (here m) (back_apart n names is (IsDistinct-tail nat_eq m names distinct)) own
      (All-weaker {X = Site} (λ site. site.block ≢ m) (λ x. All (λ y. EndsBefore n y x) (here m))
      (λ x apart. all_mapped {Y = Site} (λ y. EndsBefore n y x) (in_block m) places (each_all {P = λ at. EndsBefore n (in_block m at) x} places (λ at same. absurd (apart (sym same)))))
      (back names) (others m names distinct)))
