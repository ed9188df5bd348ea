-- A graph with the tails of two blocks merged follows it: the one is split, and the end of the other merged with what
-- was split off.
use Rattle.std.proofs.Common.{◌≡◌, ◌≢◌, ℕ, ◌≤◌, false, ◌==◌, if◌then◌else◌, inl, inr, List, [], ◌∷◌, ◌++◌, Option, Some, None, IsSome, take, drop, length, refl, sym, ap, ◌∙◌, subst, arith}
use Rattle.std.proofs.lemmas.Bool.{cases_Bool, cases_eq, ne_eqb}
use Rattle.std.proofs.lemmas.List.{drop_all}
use Rattle.sq_arena.specs.Entries.{value_of, first_key, next_key, behind as entries_behind}
use Rattle.sq_graph.specs.declared.item.Item.{Item}
use Rattle.sq_graph.specs.declared.item.Term.{Term}
use Rattle.sq_graph.specs.declared.item.Term.TheVariants.{Fall}
use Rattle.sq_graph.specs.Graph.{Block, Graph}
use Rattle.sq_graph.specs.Blocks.{named, HasBlock, block_of, block_items, items_of, block_term, term_of, next_of}
use Rattle.sq_graph.specs.Rules.{IsGraph}
use Rattle.sq_graph.specs.Operations.{IsNew, halves, split_at}
use Rattle.sq_graph.specs.Resolve.{lone_jump, jump_of, jump_from}
use Rattle.sq_graph.specs.Soundness.{IsSound}
use Rattle.sq_graph.proofs.Located.{IsAt, located}
use Rattle.sq_graph.proofs.Changes.{with_blocks-at}
use Rattle.sq_graph.proofs.SplitRules.{split_rules, words_of-split}
use Rattle.sq_graph.specs.Words.{term_words, words_of}
use Rattle.std.proofs.Common.{◌+◌, length-drop}
use Rattle.sq_graph.specs.Lines.{place_lines}
use Rattle.sq_graph.specs.Walks.{IsLive}
use Rattle.law_follow.specs.Follows.{Follows}
use Rattle.law_follow.proofs.Following.{graph_follows_through}
use Rattle.law_patch.specs.Merges.{HaveTail, tailed}
use Rattle.law_patch.proofs.Changing.{ahead}
use Rattle.law_patch.proofs.Places.{absent_from, next_at}
use Rattle.law_patch.proofs.OneBlock.{split_follows, split_sound, split_live, split_moves}
use Rattle.law_patch.proofs.Remaining.{fits_take}
use Rattle.law_patch.proofs.Carrying.{same_some}
use Rattle.law_patch.proofs.Standing.{distinct_at, block_at}
use Rattle.law_patch.proofs.Detouring.{lone_block, jumps_from}
use Rattle.law_patch.proofs.Leading.{others_same, Hops, stop, hop}
use Rattle.law_patch.proofs.Meeting.{EndsMeet, meet_weaker, Joint}
use Rattle.law_patch.proofs.Merging.{CanMerge, joint_terms, with_items, merge_follows, merge_sound, merge_live, merge_saves}
use Rattle.law_patch.proofs.Used.{not_new}

-- a block of another name is passed by
value_passed : (front : List Block) (w : Block) (back : List Block) (n : ℕ) → n ≢ w.name → value_of (named (front ++ (w ∷ back))) n ≡ value_of (named (front ++ back)) n
value_passed [] w back n differs = let p : (w.name == n) ≡ false = ne_eqb w.name n (λ e. differs (sym e)) in rw p refl
value_passed (y ∷ front) w back n differs = ap (λ o. if y.name == n then Some y else o) (value_passed front w back n differs)

-- the next slots of other blocks where one becomes two
next_halved : (front : List Block) (x one two : Block) (back : List Block) (n : ℕ) → one.name ≡ x.name → n ≢ x.name → n ≢ two.name → next_key (named (front ++ (one ∷ two ∷ back))) n ≡ next_key (named (front ++ (x ∷ back))) n
next_halved [] x one two back n e differs apart =
    let p : (x.name == n) ≡ false = ne_eqb x.name n (λ i. differs (sym i)) in
    let q : (one.name == n) ≡ false = ap (λ m. m == n) e ∙ p in
    let r : (two.name == n) ≡ false = ne_eqb two.name n (λ i. apart (sym i)) in rw (p, q) (rw r refl)
next_halved (w ∷ []) x one two back n e differs apart =
    elim (cases_Bool (w.name == n)) [
      | inl here ↦ rw here (ap Some e)
      | inr other ↦ rw other (next_halved [] x one two back n e differs apart)
    ]
next_halved (w ∷ y ∷ front) x one two back n e differs apart =
    elim (cases_Bool (w.name == n)) [
      | inl here ↦ rw here refl
      | inr other ↦ rw other (next_halved (y ∷ front) x one two back n e differs apart)
    ]

none_jumps : (o : Option Block) (m : ℕ) → o ≡ None → lone_jump o ≡ Some m → ⊥
none_jumps None m e j = cc
none_jumps (Some b) m e j = cc

module _ (g : Graph) (new dropped at kept from : ℕ) (rules : IsGraph g) (fresh : IsNew g new) (tail : HaveTail g dropped at kept from) where
  abbrev s : Graph
  s = split_at g new kept from

  -- the block that is kept has these items
  full : (items : List Item) (n : ℕ) → drop n items ≢ [] → items ≢ []
  full items n some none = some (drop_all n items (subst (λ (is : List Item). length is ≤ n) (sym none) (omega arith)))

  kept_there : (b : Block) × (block_of g kept ≡ Some b)
  kept_there = with_items (block_of g kept) (full (items_of g kept) from tail.some)

  dropped_there : (b : Block) × (block_of g dropped ≡ Some b)
  dropped_there = with_items (block_of g dropped) (full (items_of g dropped) at (λ none. tail.some (sym tail.items ∙ none)))

  spot : IsAt g.blocks kept
  spot = located g.blocks kept (subst IsSome (sym kept_there.1) refl)

  abbrev x : Block
  x = spot.block

  abbrev one : Block
  one = record x { items = take from x.items; term = Fall }

  abbrev two : Block
  two = record x { name = new; items = drop from x.items }

  whole : spot.front ++ (x ∷ spot.back) ≡ g.blocks
  whole = sym spot.whole

  after : s.blocks ≡ spot.front ++ (one ∷ two ∷ spot.back)
  after = with_blocks-at (halves new from) g.blocks kept spot

  found : block_of g kept ≡ Some x
  found = subst (λ k. value_of (named g.blocks) k ≡ Some x) spot.has_name (block_at g rules spot.front x spot.back whole)

  s_rules : IsGraph s
  s_rules = split_rules g new kept from rules fresh (subst IsSome (sym kept_there.1) refl)

  -- other blocks, and their next slots, are as before
  other_block : (n : ℕ) → n ≢ kept → n ≢ new → block_of s n ≡ block_of g n
  other_block n differs apart =
      ap (λ bs. value_of (named bs) n) after
      ∙ others_same spot.front x one (two ∷ spot.back) n refl (λ e. differs (e ∙ spot.has_name))
      ∙ value_other n apart
      ∙ ap (λ bs. value_of (named bs) n) whole
    where
      value_other : (n : ℕ) → n ≢ new → value_of (named (spot.front ++ (x ∷ two ∷ spot.back))) n ≡ value_of (named (spot.front ++ (x ∷ spot.back))) n
      value_other n apart =
          ap (λ bs. value_of (named bs) n) (sym (ahead spot.front x (two ∷ spot.back))) ∙ value_passed (spot.front ++ x ∷ []) two spot.back n apart ∙ ap (λ bs. value_of (named bs) n) (ahead spot.front x spot.back)

  other_next : (n : ℕ) → n ≢ kept → n ≢ new → next_of s n ≡ next_of g n
  other_next n differs apart =
      ap (λ bs. next_key (named bs) n) after
      ∙ next_halved spot.front x one two spot.back n refl (λ e. differs (e ∙ spot.has_name)) apart
      ∙ ap (λ bs. next_key (named bs) n) whole

  -- the block that was split off
  new_at : (spot.front ++ one ∷ []) ++ (two ∷ spot.back) ≡ s.blocks
  new_at = ahead spot.front one (two ∷ spot.back) ∙ sym after

  new_block : block_of s new ≡ Some two
  new_block = block_at s s_rules (spot.front ++ one ∷ []) two spot.back new_at

  next_is : (k : Graph) (front : List Block) (y : Block) (bs : List Block) → IsGraph k → front ++ (y ∷ bs) ≡ k.blocks → next_of k y.name ≡ first_key (named bs)
  next_is k front y bs r e = ap first_key (subst (λ cs. entries_behind (named cs) y.name ≡ named bs) e (next_at front y bs (absent_from front y bs (distinct_at k r front y bs e))))

  new_next : next_of s new ≡ next_of g kept
  new_next = next_is s (spot.front ++ one ∷ []) two spot.back s_rules new_at ∙ sym (subst (λ k. next_of g k ≡ first_key (named spot.back)) spot.has_name (next_is g spot.front x spot.back rules whole))

  dropped_new : dropped ≢ new
  dropped_new = not_new g new dropped fresh (subst IsSome (sym dropped_there.1) refl)

  dropped_kept : dropped ≢ kept
  dropped_kept e = tail.other (sym e)

  -- lone Jumps stay
  kept_items : items_of g kept ≡ x.items
  kept_items = ap block_items found

  jump_stays : (n m : ℕ) → jump_from g n ≡ Some m → jump_from s n ≡ Some m
  jump_stays n m e = ap lone_jump (other_block n not_kept fresh_other) ∙ e
    where
      fresh_other : n ≢ new
      fresh_other i = none_jumps (block_of g n) m (ap (block_of g) i ∙ fresh) e

      not_kept : n ≢ kept
      not_kept i =
          let o = jumps_from (block_of g n) m e in
          let z : x ≡ o.0 = same_some x o.0 (sym found ∙ ap (block_of g) (sym i) ∙ o.1.0) in
          full (items_of g kept) from tail.some (kept_items ∙ (lone_block x.items x.term m (subst (λ (b : Block). jump_of b.items b.term ≡ Some m) (sym z) o.1.1)).0)

  hops_stay : {n r : ℕ} → Hops g n r → Hops s n r
  hops_stay stop = stop
  hops_stay (hop {n = n} {m = m} e later) = hop (jump_stays n m e) (hops_stay later)

  joint_stays : (n m : ℕ) → Joint g n m → Joint s n m
  joint_stays n m j = (j.0, (hops_stay j.1.0, hops_stay j.1.1))

  terms_meet : (t u : Term) → term_of s dropped ≡ Some t → term_of s new ≡ Some u → EndsMeet (Joint s) t u (next_of s dropped) (next_of s new)
  terms_meet t u i j =
      let was : term_of g dropped ≡ Some t = sym (ap block_term (other_block dropped dropped_kept dropped_new)) ∙ i in
      let kept_term : term_of g kept ≡ Some u = ap block_term found ∙ sym (ap block_term new_block) ∙ j in
      subst (λ o. EndsMeet (Joint s) t u o (next_of s new)) (sym (other_next dropped dropped_kept dropped_new))
      (subst (λ o. EndsMeet (Joint s) t u (next_of g dropped) o) (sym new_next)
      (meet_weaker (Joint g) (Joint s) joint_stays (joint_terms g dropped kept tail.ends t u was kept_term)))

  new_items : items_of s new ≡ drop from (items_of g kept)
  new_items = ap block_items new_block ∙ ap (drop from) (sym kept_items)

  can : CanMerge s dropped at new
  can = record {
    other = λ e. dropped_new (sym e);
    items = ap (drop at) (ap block_items (other_block dropped dropped_kept dropped_new)) ∙ tail.items ∙ sym new_items;
    some = λ none. tail.some (sym new_items ∙ none);
    terms = terms_meet;
  }

  pub tail_follows : Follows g (tailed g new dropped at kept from)
  tail_follows = graph_follows_through g s (tailed g new dropped at kept from) (split_follows g new kept from rules fresh) (merge_follows s dropped at new s_rules can)

  pub tail_sound : IsSound g → IsSound (tailed g new dropped at kept from)
  tail_sound sound = merge_sound s dropped at new s_rules can (split_sound g new kept from rules fresh sound)

  -- a place that stays is one of the split graph
  kept_has : HasBlock g kept
  kept_has = subst IsSome (sym kept_there.1) refl

  split_block : block_of s kept ≡ Some one
  split_block = subst (λ k. value_of (named s.blocks) k ≡ Some one) spot.has_name (block_at s s_rules spot.front one (two ∷ spot.back) (sym after))

  split_fits : (m place : ℕ) → HasBlock g m → place ≤ length (items_of g m) → (m ≡ kept → place ≤ from) → place ≤ length (items_of s m)
  split_fits m place has l up =
      elim (cases_eq m kept) [
        | inl here ↦
            let fits : place ≤ length x.items = subst (λ items. place ≤ length items) (ap (items_of g) here ∙ kept_items) l in
            subst (λ items. place ≤ length items) (sym (ap (items_of s) here ∙ ap block_items split_block)) (fits_take place from x.items (up here) fits)
        | inr differs ↦ subst (λ items. place ≤ length items) (sym (ap block_items (other_block m differs (not_new g new m fresh has)))) l
      ]

  -- no more is live in other blocks, and in the two up to their tails
  pub tail_live : (m place r : ℕ) → HasBlock g m → place ≤ length (items_of g m) → (m ≡ dropped → place ≤ at) → (m ≡ kept → place ≤ from) → IsLive (tailed g new dropped at kept from) r (place_lines (tailed g new dropped at kept from) m place) → IsLive g r (place_lines g m place)
  tail_live m place r has l up up' live =
      split_live g new kept from rules fresh kept_has m place r has l up'
      (merge_live s dropped at new s_rules can m place r (split_fits m place has l up') up live)

  -- and in the tail, in its new block
  pub tail_moves : (place r : ℕ) → from + place ≤ length (items_of g kept) → IsLive (tailed g new dropped at kept from) r (place_lines (tailed g new dropped at kept from) new place) → IsLive g r (place_lines g kept (from + place))
  tail_moves place r l live =
      let within : place ≤ length (items_of s new) = subst (λ items. place ≤ length items) (sym new_items) (let n = length-drop from (items_of g kept) in omega (arith, l, n)) in
      split_moves g new kept from rules fresh kept_has place r l (merge_live s dropped at new s_rules can new place r within (λ e. absurd (dropped_new (sym e))) live)

  pub tail_saves : (term : Term) → term_of g dropped ≡ Some term → words_of (tailed g new dropped at kept from) + (length (drop from (items_of g kept)) + term_words term) ≡ words_of g + 1
  tail_saves term e =
      omega (
        arith,
        merge_saves s dropped at new s_rules can term (ap block_term (other_block dropped dropped_kept dropped_new) ∙ e),
        words_of-split g new kept from (subst IsSome (sym kept_there.1) refl),
        ap (λ (is : List Item). length is) new_items,
      )
