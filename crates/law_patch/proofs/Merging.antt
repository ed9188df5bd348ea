-- A graph with two ends of blocks merged follows it.
use Rattle.std.proofs.Common.{◌≡◌, ◌≢◌, ℕ, ◌≤◌, ◌+◌, arith, Bool, true, false, ◌==◌, inr, List, [], ◌∷◌, ◌++◌, Option, Some, None, IsSome, map, take, drop, length, drop-drop, nat_eq, refl, sym, ap, ◌∙◌, subst}
use Rattle.std.proofs.lemmas.List.{drop_all, append-nil}
use Rattle.std.specs.List.{IsDistinct, Contains, flat_map}
use Rattle.sq_arena.specs.Entries.{value_of, first_key, next_key, behind as entries_behind, HasDistinctKeys}
use Rattle.sq_graph.specs.declared.item.Item.{Item}
use Rattle.sq_graph.specs.declared.item.Term.{Term}
use Rattle.sq_graph.specs.declared.item.Term.TheVariants.{Jump}
use Rattle.sq_graph.specs.Graph.{Block, Graph}
use Rattle.sq_graph.specs.Blocks.{named, block_of, block_items, block_term, items_of, term_of, next_of}
use Rattle.sq_graph.specs.Terms.{links}
use Rattle.sq_graph.specs.Uses.{uses}
use Rattle.sq_graph.specs.Rules.{IsGraph}
use Rattle.sq_graph.specs.Operations.{replaced_items, replaced}
use Rattle.sq_graph.specs.Resolve.{jump_of, jump_from, resolved_term, resolved_term_of, block_resolved}
use Rattle.sq_graph.specs.Lines.{Line, End, line_of, term_lines, body_lines, lines_of, behind_name, slot_name, block_lines, place_lines}
use Rattle.sq_graph.specs.Walks.{IsLive, lower_names, code_targets}
use Rattle.sq_graph.specs.Soundness.{LinksDieIn, IsSound}
use Rattle.sq_graph.specs.Words.{term_words, block_words, words_of}
use Rattle.std.proofs.lemmas.List.Sums.{sum_by-cons, sum_by-append}
use Rattle.std.proofs.Common.{length-append, take-append-drop, sum_by}
use Rattle.sq_graph.proofs.Located.{IsAt, located}
use Rattle.law_follow.specs.Follows.{Follows}
use Rattle.law_patch.specs.Changes.{Change, Alike, IsCarrier, name_before, name_after, jump_before, jump_after}
use Rattle.law_patch.specs.Merges.{IsMergeable, merged}
use Rattle.law_patch.proofs.Keeping.{NoMode, no_stands, all_matter, every_carrier}
use Rattle.law_patch.proofs.Lines.{body_unnamed}
use Rattle.law_patch.proofs.Parts.{take_in, drop_in, map_parts}
use Rattle.law_patch.proofs.Places.{every, absent_from, next_at, name_at}
use Rattle.law_patch.proofs.Changing.{ahead}
use Rattle.law_patch.proofs.Carrying.{same_some, AreOf, ItemGoes, carry_items, carry_some, Backs, items_die}
use Rattle.law_patch.proofs.Layouts.{Turn, choose}
use Rattle.law_patch.proofs.Restricting.{own, flat_from, block_target, slot_targets}
use Rattle.law_patch.proofs.Standing.{stands_at, distinct_at, block_at}
use Rattle.law_patch.proofs.Detouring.{lone_block, lone_lines, jump_lines, jumps_from}
use Rattle.law_patch.proofs.Relating.{items_stay, same_names, placed_follows, placed_sound, placed_place}
use Rattle.law_patch.proofs.Remaining.{AlikeAt, fits_at, fits_take, items_at, first_at}
use Rattle.std.proofs.lemmas.Bool.{eqb-true}
use Rattle.law_patch.proofs.Ending.{all_of}
use Rattle.law_patch.proofs.Replacing.{own_items}
use Rattle.law_patch.proofs.Inverting.{placed_by}
use Rattle.law_patch.proofs.Leading.{slot_lines, first_slot, leads, keys_same, others_same, next_same, Hops, stop, hop}
use Rattle.law_patch.proofs.Meeting.{EndsMeet, meet_weaker, Resolve, resolved_meet, Joint, joint_itself, joint_resolved, MayHold, C as meeting, meet}
use Rattle.law_patch.proofs.Used.{contains_first, flat_contains}

-- a block with an item is there
pub with_items : (o : Option Block) → block_items o ≢ [] → (b : Block) × (o ≡ Some b)
with_items None some = absurd (some refl)
with_items (Some b) some = (b, refl)

no_drop : (at : ℕ) (items : List Item) → items ≡ [] → drop at items ≡ []
no_drop at items none = drop_all at items (subst (λ (is : List Item). length is ≤ at) (sym none) (omega arith))

-- a block with an item is no lone Jump
unlone : (items : List Item) (t : Term) (to : ℕ) → items ≢ [] → jump_of items t ≡ Some to → ⊥
unlone items t to some e = some (lone_block items t to e).0

no_items : (items : List Item) → length items ≡ 0 → items ≡ []
no_items [] e = refl
no_items (item ∷ items) e = absurd (omega (arith, e))

-- The end of one block has as many items as another block, at least one, and from there the two lead to the same.
pub record HaveEnds (g : Graph) (dropped at kept : ℕ) : Type 0 where
  pub other : kept ≢ dropped
  pub many : length (drop at (items_of g dropped)) ≡ length (items_of g kept)
  pub some : items_of g kept ≢ []
  pub terms : (t u : Term) → term_of g dropped ≡ Some t → term_of g kept ≡ Some u → EndsMeet (Joint g) t u (next_of g dropped) (next_of g kept)

-- blocks with equal resolved terms lead to the same
pub joint_terms : (g : Graph) (dropped kept : ℕ) → resolved_term_of g dropped ≡ resolved_term_of g kept → (t u : Term) → term_of g dropped ≡ Some t → term_of g kept ≡ Some u → EndsMeet (Joint g) t u (next_of g dropped) (next_of g kept)
joint_terms g dropped kept e t u i j =
    let o = block_of_term (block_of g dropped) t i in
    let p = block_of_term (block_of g kept) u j in
    let same : resolved_term g t (next_of g dropped) ≡ resolved_term g u (next_of g kept) =
    same_some (resolved_term g t (next_of g dropped)) (resolved_term g u (next_of g kept))
    (sym (resolved_of (block_of g dropped) (next_of g dropped) o.0 t o.1.0 o.1.1) ∙ e ∙ resolved_of (block_of g kept) (next_of g kept) p.0 u p.1.0 p.1.1) in
    meet_weaker (Resolve g) (Joint g) (joint_resolved g) (resolved_meet g t u (next_of g dropped) (next_of g kept) same)
  where
    block_of_term : (o : Option Block) (t : Term) → block_term o ≡ Some t → (b : Block) × ((o ≡ Some b) × (b.term ≡ t))
    block_of_term None t i = absurd (cc)
    block_of_term (Some b) t i = (b, (refl, same_some b.term t i))

    resolved_of : (o : Option Block) (next : Option ℕ) (b : Block) (t : Term) → o ≡ Some b → b.term ≡ t → block_resolved g o next ≡ Some (resolved_term g t next)
    resolved_of o next b t i k = ap (λ w. block_resolved g w next) i ∙ ap (λ w. Some (resolved_term g w next)) k

-- Such an end goes, and a Jump to the other block stands in its place.
module _ (g : Graph) (dropped at kept : ℕ) (rules : IsGraph g) (can : HaveEnds g dropped at kept) where
  abbrev pub h : Graph
  h = merged g dropped at kept

  -- the two blocks
  pub kept_block : (b : Block) × (block_of g kept ≡ Some b)
  kept_block = with_items (block_of g kept) can.some

  abbrev pub k : Block
  k = kept_block.0

  pub kept_items : items_of g kept ≡ k.items
  kept_items = ap block_items kept_block.1

  items_there : items_of g dropped ≢ []
  items_there none = can.some (no_items (items_of g kept) (sym can.many ∙ ap (λ (is : List Item). length is) (no_drop at (items_of g dropped) none)))

  dropped_block : (b : Block) × (block_of g dropped ≡ Some b)
  dropped_block = with_items (block_of g dropped) items_there

  pub spot : IsAt g.blocks dropped
  spot = located g.blocks dropped (subst IsSome (sym dropped_block.1) refl)

  abbrev pub x : Block
  x = spot.block

  abbrev front : List Block
  front = spot.front

  abbrev back : List Block
  back = spot.back

  whole : front ++ (x ∷ back) ≡ g.blocks
  whole = sym spot.whole

  in_graph : Contains g.blocks x
  in_graph = stands_at g rules front x back whole

  found : block_of g dropped ≡ Some x
  found = subst (λ n. value_of (named g.blocks) n ≡ Some x) spot.has_name (block_at g rules front x back whole)

  pub x_items : items_of g dropped ≡ x.items
  x_items = ap block_items found

  -- the end of the first block, and its term
  abbrev pub out : List Item
  out = drop at x.items

  abbrev pub end : List Line
  end = term_lines x.term (lines_of back)

  many : length out ≡ length (items_of g kept)
  many = ap (λ items. length (drop at items)) (sym x_items) ∙ can.many

  pub some_out : out ≢ []
  some_out none = can.some (no_items (items_of g kept) (sym many ∙ ap (λ (is : List Item). length is) none))

  -- what stands behind the first block's name
  pub lines_are : block_lines g dropped ≡ body_lines x (lines_of back)
  lines_are =
      subst (λ n. behind_name n (lines_of g.blocks) ≡ body_lines x (lines_of back)) spot.has_name
      (subst (λ blocks. behind_name x.name (lines_of blocks) ≡ body_lines x (lines_of back)) whole (name_at front x back (absent_from front x back (distinct_at g rules front x back whole))))

  -- what the first block becomes
  abbrev mid : Block
  mid = record x { items = replaced_items x.items at (length (items_of g kept)) [] }

  abbrev y : Block
  y = record mid { term = Jump kept }

  nothing_left : drop (at + length (items_of g kept)) x.items ≡ []
  nothing_left = sym (drop-drop (length (items_of g kept)) at x.items) ∙ drop_all (length (items_of g kept)) out (omega (arith, many))

  y_items : y.items ≡ take at x.items
  y_items = ap (λ rest. take at x.items ++ ([] ++ rest)) nothing_left ∙ append-nil (take at x.items)

  absent : value_of (named front) dropped ≡ None
  absent = subst (λ n. value_of (named front) n ≡ None) spot.has_name (absent_from front x back (distinct_at g rules front x back whole))

  after : h.blocks ≡ front ++ (y ∷ back)
  after =
      let first = placed_by front x back dropped (λ b. record b { items = replaced_items b.items at (length (items_of g kept)) [] } ∷ []) g.blocks whole spot.has_name absent in
      placed_by front mid back dropped (λ b. record b { term = Jump kept } ∷ []) (replaced g dropped at (length (items_of g kept)) []).blocks (sym first) spot.has_name absent

  -- the second graph has the same names, next slots and other blocks
  distinct : HasDistinctKeys (named h.blocks)
  distinct =
      subst (λ blocks. HasDistinctKeys (named blocks)) (sym after)
      (subst (λ ns. IsDistinct nat_eq ns) (sym (keys_same front x y back refl)) (distinct_at g rules front x back whole))

  other_block : (n : ℕ) → n ≢ dropped → block_of h n ≡ block_of g n
  other_block n differs =
      ap (λ blocks. value_of (named blocks) n) after
      ∙ others_same front x y back n refl (λ e. differs (e ∙ spot.has_name))
      ∙ ap (λ blocks. value_of (named blocks) n) whole

  next_slot : (n : ℕ) → next_of h n ≡ next_of g n
  next_slot n = ap (λ blocks. next_key (named blocks) n) after ∙ next_same front x y back n refl ∙ ap (λ blocks. next_key (named blocks) n) whole

  -- what stands behind the kept block's name
  kept_lines : block_lines h kept ≡ body_lines k (slot_lines h.blocks (next_of g kept))
  kept_lines = leads h.blocks kept k distinct (other_block kept can.other ∙ kept_block.1) ∙ ap (λ o. body_lines k (slot_lines h.blocks o)) (next_slot kept)

  abbrev first : List Item
  first = take at x.items

  -- the two terms
  ends_meet : EndsMeet (Joint g) x.term k.term (next_of g dropped) (next_of g kept)
  ends_meet = can.terms x.term k.term (ap block_term found) (ap block_term kept_block.1)

  -- what stands in the slot behind the first block
  slot_is : lines_of back ≡ slot_lines g.blocks (next_of g dropped)
  slot_is = first_slot g.blocks (front ++ x ∷ []) back rules.distinct (ahead front x back ∙ whole) ∙ ap (slot_lines g.blocks) (sym next_is)
    where
      next_is : next_of g dropped ≡ first_key (named back)
      next_is = ap first_key (subst (λ n. entries_behind (named g.blocks) n ≡ named back) spot.has_name (subst (λ blocks. entries_behind (named blocks) x.name ≡ named back) whole (next_at front x back (absent_from front x back (distinct_at g rules front x back whole)))))

  slot_targeted : links x.term ≡ true → (n : ℕ) → next_of g dropped ≡ Some n → Contains (code_targets g) n
  slot_targeted l n e = by_first back refl
    where
      by_first : (bs : List Block) → bs ≡ back → Contains (code_targets g) n
      by_first [] i = absurd (let j : [] ≡ slot_lines g.blocks (Some n) = ap lines_of i ∙ slot_is ∙ ap (slot_lines g.blocks) e in cc)
      by_first (w ∷ bs) i =
          let j : lines_of (w ∷ bs) ≡ slot_lines g.blocks (Some n) = ap lines_of i ∙ slot_is ∙ ap (slot_lines g.blocks) e in
          let name : w.name ≡ n = same_some w.name n (ap slot_name j) in
          subst (λ m. Contains (code_targets g) m) name (slot_targets g front x (w ∷ bs) (ap (λ cs. front ++ (x ∷ cs)) i ∙ whole) l w.name (contains_first w.name []))

  y_lines : body_lines y (lines_of back) ≡ map line_of first ++ (End (Jump kept) ∷ lines_of back)
  y_lines = ap (λ items. map line_of items ++ (End (Jump kept) ∷ lines_of back)) y_items

  x_lines : body_lines x (lines_of back) ≡ map line_of first ++ (map line_of out ++ end)
  x_lines = map_parts x.items at end

  lower_in : (m : ℕ) → Contains (flat_map lower_names y.items) m → Contains (code_targets g) m
  lower_in m c =
      let o = flat_from lower_names first m (subst (λ items. Contains (flat_map lower_names items) m) y_items c) in
      block_target g x m in_graph (flat_contains lower_names x.items o.0 m (take_in x.items at o.0 o.1.0) o.1.1)

  -- a lone Jump is another block than the first, and stays
  jumps_on : (n m : ℕ) → jump_from g n ≡ Some m → (rest : List Line) × (block_lines h n ≡ End (Jump m) ∷ rest)
  jumps_on n m e =
      let o = jumps_from (block_of g n) m e in
      let other : n ≢ dropped = λ i.
      let z : x ≡ o.0 = same_some x o.0 (sym found ∙ ap (block_of g) (sym i) ∙ o.1.0) in
      unlone x.items x.term m (λ none. items_there (x_items ∙ none)) (subst (λ (b : Block). jump_of b.items b.term ≡ Some m) (sym z) o.1.1) in
      let lone = lone_block o.0.items o.0.term m o.1.1 in
      (slot_lines h.blocks (next_of h n), leads h.blocks n o.0 distinct (other_block n other ∙ o.1.0) ∙ lone_lines o.0.items o.0.term o.0.name m (slot_lines h.blocks (next_of h n)) lone.0 lone.1)

  -- the words of the end go, and that of the Jump comes
  first_words : length x.items ≡ length first + length out
  first_words = omega (arith, ap (λ (is : List Item). length is) (take-append-drop at x.items), length-append first out)

  pub merged_saves : (term : Term) → term_of g dropped ≡ Some term → words_of h + (length (items_of g kept) + term_words term) ≡ words_of g + 1
  merged_saves term e =
      let was : x.term ≡ term = same_some x.term term (sym (ap block_term found) ∙ e) in
      omega (
        arith,
        ap (λ bs. sum_by block_words bs) after,
        sum_by-append block_words front (y ∷ back),
        sum_by-cons block_words y back,
        ap (λ bs. sum_by block_words bs) whole,
        sum_by-append block_words front (x ∷ back),
        sum_by-cons block_words x back,
        first_words,
        ap (λ (is : List Item). length is) y_items,
        many,
        ap term_words was,
      )

  module _ (Mode : Type 0) (StandsIn : Mode → ℕ → ℕ → Type 0) (X : List Line → ℕ → Type 0) (Z : Type 0) (carrier : IsCarrier g X) where
    abbrev pub C : Change
    C = meeting Mode StandsIn X Z g h

    -- names
    pub may_hold : (n : ℕ) → Contains (code_targets g) n → MayHold g n n
    may_hold n c = (c, joint_itself g n)

    pub may_go : (n : ℕ) → Contains (uses g) n → Joint g n n
    may_go n c = joint_itself g n

    each : AreOf C own (ItemGoes C own) x.items
    each = items_stay Mode StandsIn (MayHold g) (Joint g) every X Z g h rules refl refl may_hold may_go x in_graph

    in_first : AreOf C own (ItemGoes C own) first
    in_first item c = each item (take_in x.items at item c)

    pub in_out : AreOf C own (ItemGoes C own) out
    in_out item c = each item (drop_in x.items at item c)

    keep : (b : Bool) (items : List Item) (xs ys : List Line) → AreOf C own (ItemGoes C own) items → Alike C b None xs ys → Alike C b None (map line_of items ++ xs) (map line_of items ++ ys)
    keep b items xs ys f p = subst (λ is. Alike C b None (map line_of items ++ xs) (map line_of is ++ ys)) (own_items items) (carry_items C own items xs ys f p)

    -- items, at least one
    pub keep_some : (b : Bool) (items : List Item) (xs ys : List Line) → items ≢ [] → AreOf C own (ItemGoes C own) items → Alike C true None xs ys → Alike C b None (map line_of items ++ xs) (map line_of items ++ ys)
    keep_some b [] xs ys full f p = absurd (full refl)
    keep_some b (item ∷ items) xs ys full f p = subst (λ is. Alike C b None (map line_of (item ∷ items) ++ xs) (map line_of is ++ ys)) (own_items (item ∷ items)) (carry_some C own item items xs ys f p)

    -- where the items of the end go on like those of the other block
    module _ (goes : (b : Bool) (ys : List Line) → Alike C true None end ys → Alike C b None (map line_of out ++ end) (map line_of k.items ++ ys)) where
      -- the end of the first block goes on like the Jump to the other
      end_goes : (b : Bool) → Alike C b None (map line_of out ++ end) (End (Jump kept) ∷ lines_of back)
      end_goes b =
          let other_end = term_lines k.term (slot_lines h.blocks (next_of g kept)) in
          let met : Alike C true None end other_end = subst (λ lines. Alike C true None (term_lines x.term lines) other_end) (sym slot_is) (meet Mode StandsIn X Z g h ends_meet slot_targeted) in
          jump_after tt (subst (λ lines. Alike C b None (map line_of out ++ end) lines) (sym kept_lines) (goes b other_end met))

      body : (b : Bool) → Alike C b None (body_lines x (lines_of back)) (body_lines y (lines_of back))
      body b =
          subst (λ xs. Alike C b None xs (body_lines y (lines_of back))) (sym x_lines)
          (subst (λ ys. Alike C b None (map line_of first ++ (map line_of out ++ end)) ys) (sym y_lines)
          (keep b first (map line_of out ++ end) (End (Jump kept) ∷ lines_of back) in_first (end_goes b)))

      first_dies : Backs C own → LinksDieIn g (body_lines x (lines_of back)) → LinksDieIn h (lines_of back) → LinksDieIn h (body_lines y (lines_of back))
      first_dies backs die die' =
          subst (λ lines. LinksDieIn h lines) (sym y_lines)
          (subst (λ (is : List Item). LinksDieIn h (map line_of is ++ (End (Jump kept) ∷ lines_of back))) (own_items first)
          (items_die C own backs first (map line_of out ++ end) (End (Jump kept) ∷ lines_of back) in_first (end_goes true) (subst (λ lines. LinksDieIn g lines) x_lines die) die'))

      turn : Turn C own every true true (x ∷ []) (y ∷ []) back back
      turn = record {
        lines = λ b i p. name_before (name_after (body b));
        behind = λ m j p q.
            choose (x.name == m) (body_lines x (lines_of back)) (behind_name m (body_lines x (lines_of back))) (body_lines y (lines_of back)) (behind_name m (body_lines y (lines_of back))) (body false)
            (subst (λ xs. Alike C false None xs (behind_name m (body_lines y (lines_of back)))) (sym (body_unnamed m x (lines_of back)))
            (subst (λ ys. Alike C false None (behind_name m (lines_of back)) ys) (sym (body_unnamed m y (lines_of back))) q));
        lowers = λ m c. (m, (lower_in m (all_of (flat_map lower_names y.items) m c), joint_itself g m));
        slots = λ m c. inr c;
        dies = λ backs p die die'. first_dies backs die die';
      }

      -- a name leads to what stands there, in both graphs
      same : (n : ℕ) → Alike C false None (block_lines g n) (block_lines h n)
      same n = same_names Mode StandsIn (MayHold g) (Joint g) every X Z g h rules refl refl may_hold may_go (x ∷ []) (y ∷ []) back refl turn front whole after n tt

      walk_before : (n r : ℕ) (ys : List Line) → Hops g n r → Alike C false None (block_lines g r) ys → Alike C false None (block_lines g n) ys
      walk_before n r ys stop p = p
      walk_before n r ys (hop {m = m} e later) p =
          let o = jump_lines g rules n m e in subst (λ xs. Alike C false None xs ys) (sym o.1) (jump_before tt (walk_before m r ys later p))

      walk_after : (n r : ℕ) (xs : List Line) → Hops g n r → Alike C false None xs (block_lines h r) → Alike C false None xs (block_lines h n)
      walk_after n r xs stop p = p
      walk_after n r xs (hop {m = m} e later) p =
          let o = jumps_on n m e in subst (λ ys. Alike C false None xs ys) (sym o.1) (jump_after tt (walk_after m r xs later p))

      names : (n m : ℕ) → Joint g n m → Alike C false None (block_lines g n) (block_lines h m)
      names n m j = walk_before n j.0 (block_lines h m) j.1.0 (walk_after m j.0 (block_lines g j.0) j.1.1 (same j.0))

      values : (n m : ℕ) → MayHold g n m → Contains (code_targets g) n × Joint g n m
      values n m v = v

      pub merged_follows : Follows g h
      merged_follows = placed_follows Mode StandsIn (MayHold g) (Joint g) every X Z g h rules refl refl may_hold may_go (x ∷ []) (y ∷ []) back refl turn front whole after refl carrier values names

      pub merged_sound : ((xs : List Line) (r : ℕ) → IsLive g r xs → X xs r) → Z → IsSound g → IsSound h
      merged_sound matters safe sound = placed_sound Mode StandsIn (MayHold g) (Joint g) every X Z g h rules refl refl may_hold may_go (x ∷ []) (y ∷ []) back refl turn front whole after refl carrier values names matters safe sound

      -- places of the first block ahead of the end, and of others
      merged_at : (m place : ℕ) → ((x.name == m) ≡ true → place ≤ length x.items) → (m ≡ dropped → place ≤ at) → AlikeAt C own m place back back → AlikeAt C own m place (x ∷ back) (y ∷ back)
      merged_at m place fits up q =
          first_at C own m place x y back back refl
          (λ t.
          let within : place ≤ length first = fits_take place at x.items (up (sym (eqb-true x.name m t) ∙ spot.has_name)) (fits t) in
          subst (λ xs. Alike C true None (drop place xs) (drop place (body_lines y (lines_of back)))) (sym x_lines)
          (subst (λ ys. Alike C true None (drop place (map line_of first ++ (map line_of out ++ end))) (drop place ys)) (sym y_lines)
          (subst (λ is. Alike C true None (drop place (map line_of first ++ (map line_of out ++ end))) (drop place (map line_of is ++ (End (Jump kept) ∷ lines_of back)))) (own_items first)
          (items_at C own place first (map line_of out ++ end) (End (Jump kept) ∷ lines_of back) in_first within (end_goes true))))) q

      -- no more is live at them
      pub merged_live : ((xs : List Line) (r : ℕ) → IsLive g r xs → X xs r) → Z → (m place r : ℕ) → place ≤ length (items_of g m) → (m ≡ dropped → place ≤ at) → IsLive h r (place_lines h m place) → IsLive g r (place_lines g m place)
      merged_live matters safe m place r l up live =
          placed_place Mode StandsIn (MayHold g) (Joint g) every X Z g h rules refl refl may_hold may_go (x ∷ []) (y ∷ []) back refl turn front whole after refl carrier values names matters safe m place r l
          (merged_at m place (fits_at g rules m place l front x back whole) up) live

-- The end of one block is another block, by its items and by where the two lead.
pub record CanMerge (g : Graph) (dropped at kept : ℕ) : Type 0 where
  pub other : kept ≢ dropped
  pub items : drop at (items_of g dropped) ≡ items_of g kept
  pub some : items_of g kept ≢ []
  pub terms : (t u : Term) → term_of g dropped ≡ Some t → term_of g kept ≡ Some u → EndsMeet (Joint g) t u (next_of g dropped) (next_of g kept)

pub can_merge : (g : Graph) (dropped at kept : ℕ) → IsMergeable g dropped at kept → CanMerge g dropped at kept
can_merge g dropped at kept can = record { other = can.other; items = can.items; some = can.some; terms = joint_terms g dropped kept can.terms }

module _ (g : Graph) (dropped at kept : ℕ) (rules : IsGraph g) (can : CanMerge g dropped at kept) where
  ends : HaveEnds g dropped at kept
  ends = record { other = can.other; many = ap (λ (is : List Item). length is) can.items; some = can.some; terms = can.terms }

  abbrev D : Change
  D = C g dropped at kept rules ends NoMode no_stands all_matter (Unit {0}) (every_carrier g)

  abbrev their_end : List Line
  their_end = end g dropped at kept rules ends

  abbrev their_items : List Item
  their_items = out g dropped at kept rules ends

  abbrev other : Block
  other = k g dropped at kept rules ends

  out_is : their_items ≡ other.items
  out_is = ap (drop at) (sym (x_items g dropped at kept rules ends)) ∙ can.items ∙ kept_items g dropped at kept rules ends

  equal_goes : (b : Bool) (ys : List Line) → Alike D true None their_end ys → Alike D b None (map line_of their_items ++ their_end) (map line_of other.items ++ ys)
  equal_goes b ys p =
      subst (λ items. Alike D b None (map line_of their_items ++ their_end) (map line_of items ++ ys)) out_is
      (keep_some g dropped at kept rules ends NoMode no_stands all_matter (Unit {0}) (every_carrier g) b their_items their_end ys (some_out g dropped at kept rules ends) (in_out g dropped at kept rules ends NoMode no_stands all_matter (Unit {0}) (every_carrier g)) p)

  pub merge_follows : Follows g (merged g dropped at kept)
  merge_follows = merged_follows g dropped at kept rules ends NoMode no_stands all_matter (Unit {0}) (every_carrier g) equal_goes

  pub merge_sound : IsSound g → IsSound (merged g dropped at kept)
  merge_sound sound = merged_sound g dropped at kept rules ends NoMode no_stands all_matter (Unit {0}) (every_carrier g) equal_goes (λ xs r l. tt) tt sound

  pub merge_live : (m place r : ℕ) → place ≤ length (items_of g m) → (m ≡ dropped → place ≤ at) → IsLive (merged g dropped at kept) r (place_lines (merged g dropped at kept) m place) → IsLive g r (place_lines g m place)
  merge_live m place r l up live = merged_live g dropped at kept rules ends NoMode no_stands all_matter (Unit {0}) (every_carrier g) equal_goes (λ xs r l. tt) tt m place r l up live

  pub merge_saves : (term : Term) → term_of g dropped ≡ Some term → words_of (merged g dropped at kept) + (length (items_of g kept) + term_words term) ≡ words_of g + 1
  merge_saves term e = merged_saves g dropped at kept rules ends term e
