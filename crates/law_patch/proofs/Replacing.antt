-- A block with other items in place of some, in a place of a graph.
use Rattle.std.proofs.Common.{◌≤◌, ◌≡◌, ℕ, Bool, true, false, ◌==◌, inl, inr, List, [], ◌∷◌, ◌++◌, ◌+◌, None, map, take, drop, take-append-drop, drop-drop, refl, sym, ap, ◌∙◌, subst}
use Rattle.std.specs.List.{IsDistinct}
use Rattle.std.proofs.Common.{length-take-le, length-append, length-drop, length, length as count, arith, zero, suc, nat_eq, ◌≢◌, ◌⊎◌, Option, Some}
use Rattle.std.proofs.lemmas.Bool.{cases_eq}
use Rattle.std.proofs.Math.Seq.{drop-append-add}
use Rattle.sq_arena.specs.Entries.{value_of, first_key, next_key, behind as entries_behind, HasDistinctKeys}
use Rattle.sq_graph.specs.Blocks.{named, block_of, block_items, items_of, next_of}
use Rattle.sq_graph.specs.Lines.{slot_name, place_lines}
use Rattle.law_patch.specs.Changes.{ends, guarded}
use Rattle.law_patch.proofs.Places.{absent_from, next_at, name_at}
use Rattle.law_patch.proofs.Parts.{take_in, drop_in}
use Rattle.law_patch.proofs.Carrying.{same_some, SlotGoes}
use Rattle.law_patch.proofs.Standing.{distinct_at, block_at}
use Rattle.law_patch.proofs.Relating.{placed_backs}
use Rattle.law_patch.proofs.Leading.{slot_lines, leads, keys_same, others_same, next_same}
use Rattle.law_patch.proofs.Used.{contains_first}
use Rattle.std.proofs.lemmas.List.Concat.{flat_map-append}
use Rattle.std.proofs.lemmas.List.Elements.{Contains-append_cases, Contains-append_left, Contains-append_right}
use Rattle.std.specs.List.{Contains, flat_map}
use Rattle.sq_graph.specs.declared.item.Item.{Item}
use Rattle.sq_graph.specs.declared.item.Term.TheVariants.{Fall}
use Rattle.sq_graph.specs.Graph.{Block, Graph}
use Rattle.sq_graph.specs.Blocks.{HasBlock}
use Rattle.sq_graph.specs.Terms.{links}
use Rattle.sq_graph.specs.Uses.{uses}
use Rattle.sq_graph.specs.Rules.{IsGraph}
use Rattle.sq_graph.specs.Operations.{replaced_items, replaced}
use Rattle.sq_graph.specs.Lines.{Line, line_of, term_lines, body_lines, lines_of, behind_name, block_lines}
use Rattle.sq_graph.specs.Renames.{retargeted_items, recalled_items}
use Rattle.sq_graph.specs.Walks.{IsLive, lower_names, link_names, first_name, code_targets}
use Rattle.sq_graph.specs.Soundness.{LinksDieIn, IsSound}
use Rattle.sq_graph.proofs.Located.{IsAt, located}
use Rattle.sq_graph.proofs.Changes.{with_blocks-at}
use Rattle.law_follow.specs.Follows.{Follows}
use Rattle.law_patch.specs.Changes.{Change, Alike, IsCarrier, name_before, name_after}
use Rattle.law_patch.proofs.Lines.{body_unnamed}
use Rattle.law_patch.proofs.Changing.{ahead}
use Rattle.law_patch.proofs.Places.{every}
use Rattle.law_patch.proofs.Parts.{with_others}
use Rattle.law_patch.proofs.Dying.{items_rest, term_dies}
use Rattle.law_patch.proofs.Carrying.{AreOf, ItemGoes, carry_items, carry_term, Backs, items_die}
use Rattle.law_patch.proofs.Layouts.{Turn, carries_lines, choose}
use Rattle.law_patch.proofs.Restricting.{own, own_block, block_target, slot_targets}
use Rattle.law_patch.proofs.Standing.{stands_at, own_called_block}
use Rattle.law_patch.proofs.Relating.{relating, block_stays, items_stay, block_goes, all_stay, same_names, placed_follows, placed_sound}
use Rattle.law_patch.proofs.Ending.{all_of, one_slot}

-- items under their own names and numbers
pub own_items : (items : List Item) → recalled_items own (retargeted_items own items) ≡ items
own_items items =
    let b : Block = record { name = 0; items = items; term = Fall } in
    ap (λ (c : Block). c.items) (ap (λ (c : Block). record c { items = recalled_items own c.items }) (own_block b) ∙ own_called_block b)

-- what stands behind items of a block
pub behind_items : (items : List Item) (n : ℕ) (rest : List Line) → n ≤ length items → drop n (map line_of items ++ rest) ≡ map line_of (drop n items) ++ rest
behind_items items zero rest l = refl
behind_items [] (suc n) rest l = absurd (omega arith)
behind_items (item ∷ items) (suc n) rest l = behind_items items n rest (omega (arith, l))

-- items in three parts
pub three_parts : (items : List Item) (at length : ℕ) → take at items ++ (take length (drop at items) ++ drop (at + length) items) ≡ items
three_parts items at length =
    ap (λ rest. take at items ++ (take length (drop at items) ++ rest)) (sym (drop-drop length at items))
    ∙ ap (λ rest. take at items ++ rest) (take-append-drop length (drop at items)) ∙ take-append-drop at items

-- what stands behind the first of two lists
drop_past : (first items : List Item) (at n : ℕ) → length first ≡ at → drop (at + n) (first ++ items) ≡ drop n items
drop_past first items at n e = subst (λ k. drop (k + n) (first ++ items) ≡ drop n items) e (drop-append-add first items n)

module _ (Mode : Type 0) (StandsIn : Mode → ℕ → ℕ → Type 0) (X : List Line → ℕ → Type 0) (Z : Type 0) (g h : Graph) (rules : IsGraph g) (procedures : h.procedures ≡ g.procedures) (words : h.code_words ≡ g.code_words) where
  -- each name for itself
  abbrev pub Go : ℕ → ℕ → Type 0
  Go n m = (m ≡ n) × every n

  abbrev pub Hold : ℕ → ℕ → Type 0
  Hold n m = (m ≡ n) × (every n × Contains (code_targets g) n)

  pub may_go : (n : ℕ) → Contains (uses g) n → Go n n
  may_go n c = (refl, tt)

  pub may_hold : (n : ℕ) → Contains (code_targets g) n → Hold n n
  may_hold n c = (refl, (tt, c))

  abbrev pub C : Change
  C = relating Mode StandsIn Hold Go X Z g h

  module _ (x : Block) (back : List Block) (first out rest by : List Item) (are : x.items ≡ first ++ (out ++ rest)) (there : Contains g.blocks x) where
    abbrev y : Block
    y = record x { items = first ++ (by ++ rest) }

    -- what stands behind the items
    abbrev pub end : List Line
    end = term_lines x.term (lines_of back)

    abbrev pub later : List Line
    later = map line_of rest ++ end

    all : AreOf C own (ItemGoes C own) x.items
    all = items_stay Mode StandsIn Hold Go every X Z g h rules procedures words may_hold may_go x there

    in_first : AreOf C own (ItemGoes C own) first
    in_first item c = all item (subst (λ is. Contains is item) (sym are) (Contains-append_left first (out ++ rest) item c))

    in_rest : AreOf C own (ItemGoes C own) rest
    in_rest item c = all item (subst (λ is. Contains is item) (sym are) (Contains-append_right first (out ++ rest) item (Contains-append_right out rest item c)))

    keep : (b : Bool) (items : List Item) (xs ys : List Line) → AreOf C own (ItemGoes C own) items → Alike C b None xs ys → Alike C b None (map line_of items ++ xs) (map line_of items ++ ys)
    keep b items xs ys each p = subst (λ is. Alike C b None (map line_of items ++ xs) (map line_of is ++ ys)) (own_items items) (carry_items C own items xs ys each p)

    lines_before : body_lines x (lines_of back) ≡ map line_of first ++ (map line_of out ++ later)
    lines_before = ap (λ is. map line_of is ++ end) are ∙ with_others first out rest end

    lines_after : body_lines y (lines_of back) ≡ map line_of first ++ (map line_of by ++ later)
    lines_after = with_others first by rest end

    module _ (ended : (b : Bool) → Alike C b None end end) (middle : (b : Bool) → Alike C b None later later → Alike C b None (map line_of out ++ later) (map line_of by ++ later)) (lowers : (m : ℕ) → Contains (flat_map lower_names by) m → Contains (code_targets g) m) (dies : Backs C own → Alike C true None later later → LinksDieIn g (map line_of out ++ later) → LinksDieIn h later → LinksDieIn h (map line_of by ++ later)) where
      behind_it : (b : Bool) → Alike C b None later later
      behind_it b = keep b rest end end in_rest (ended b)

      body : (b : Bool) → Alike C b None (body_lines x (lines_of back)) (body_lines y (lines_of back))
      body b =
          subst (λ xs. Alike C b None xs (body_lines y (lines_of back))) (sym lines_before)
          (subst (λ ys. Alike C b None (map line_of first ++ (map line_of out ++ later)) ys) (sym lines_after)
          (keep b first (map line_of out ++ later) (map line_of by ++ later) in_first (middle b (behind_it b))))

      lower_in : (m : ℕ) → Contains (flat_map lower_names x.items) m → Contains (code_targets g) m
      lower_in m c = block_target g x m there c

      held_in : (m : ℕ) → Contains (flat_map lower_names (first ++ (by ++ rest))) m → Contains (code_targets g) m
      held_in m c =
          elim (Contains-append_cases (flat_map lower_names first) (flat_map lower_names (by ++ rest)) m (subst (λ ns. Contains ns m) (flat_map-append lower_names first (by ++ rest)) c)) [
            | inl d ↦ lower_in m (subst (λ is. Contains (flat_map lower_names is) m) (sym are) (subst (λ ns. Contains ns m) (sym (flat_map-append lower_names first (out ++ rest))) (Contains-append_left (flat_map lower_names first) (flat_map lower_names (out ++ rest)) m d)))
            | inr d ↦ elim (Contains-append_cases (flat_map lower_names by) (flat_map lower_names rest) m (subst (λ ns. Contains ns m) (flat_map-append lower_names by rest) d)) [
              | inl e ↦ lowers m e
              | inr e ↦ lower_in m (subst (λ is. Contains (flat_map lower_names is) m) (sym are)
                  (subst (λ ns. Contains ns m) (sym (flat_map-append lower_names first (out ++ rest)))
                  (Contains-append_right (flat_map lower_names first) (flat_map lower_names (out ++ rest)) m
                  (subst (λ ns. Contains ns m) (sym (flat_map-append lower_names out rest)) (Contains-append_right (flat_map lower_names out) (flat_map lower_names rest) m e)))))
            ]
          ]

      module _ (slot : (m : ℕ) → links x.term ≡ true → Contains (first_name back) m → Contains (code_targets g) m) where
        own_die : (items : List Item) (xs ys : List Line) → Backs C own → AreOf C own (ItemGoes C own) items → Alike C true None xs ys → LinksDieIn g (map line_of items ++ xs) → LinksDieIn h ys → LinksDieIn h (map line_of items ++ ys)
        own_die items xs ys backs each p die die' = subst (λ (is : List Item). LinksDieIn h (map line_of is ++ ys)) (own_items items) (items_die C own backs items xs ys each p die die')

        block_dies : Backs C own → LinksDieIn g (body_lines x (lines_of back)) → LinksDieIn h (lines_of back) → LinksDieIn h (body_lines y (lines_of back))
        block_dies backs die die' =
            let in_first_lines : LinksDieIn g (map line_of first ++ (map line_of out ++ later)) = subst (λ lines. LinksDieIn g lines) lines_before die in
            let in_out = items_rest g first (map line_of out ++ later) in_first_lines in
            let in_later = items_rest g out later in_out in
            let later_dies = own_die rest end end backs in_rest (ended true) in_later (term_dies h x.term (lines_of back) die') in
            let by_dies = dies backs (behind_it true) in_out later_dies in
            subst (λ lines. LinksDieIn h lines) (sym lines_after)
            (own_die first (map line_of out ++ later) (map line_of by ++ later) backs in_first (middle true (behind_it true)) in_first_lines by_dies)

        pub item_turn : Turn C own every true true (x ∷ []) (y ∷ []) back back
        item_turn = record {
          lines = λ b i p. name_before (name_after (body b));
          behind = λ m k p q.
              choose (x.name == m) (body_lines x (lines_of back)) (behind_name m (body_lines x (lines_of back))) (body_lines y (lines_of back)) (behind_name m (body_lines y (lines_of back))) (body false)
              (subst (λ xs. Alike C false None xs (behind_name m (body_lines y (lines_of back)))) (sym (body_unnamed m x (lines_of back)))
              (subst (λ ys. Alike C false None (behind_name m (lines_of back)) ys) (sym (body_unnamed m y (lines_of back))) q));
          lowers = λ m c. (m, (refl, (tt, held_in m (all_of (flat_map lower_names y.items) m c))));
          slots = λ m c. one_slot (links x.term) m (first_name back) (link_names back) c (λ l d. (m, (refl, (tt, slot m l d))));
          dies = λ backs p die die'. block_dies backs die die';
        }

-- a block in a graph, in which `length` of its items, from `at` on, become others
module _ (Mode : Type 0) (StandsIn : Mode → ℕ → ℕ → Type 0) (X : List Line → ℕ → Type 0) (Z : Type 0) (g : Graph) (carrier : IsCarrier g X) (rules : IsGraph g) (block at length : ℕ) (by : List Item) (has : HasBlock g block) where
  abbrev pub h : Graph
  h = replaced g block at length by

  abbrev D : Change
  D = C Mode StandsIn X Z g h rules refl refl

  abbrev G : ℕ → ℕ → Type 0
  G = Go Mode StandsIn X Z g h rules refl refl

  abbrev H : ℕ → ℕ → Type 0
  H = Hold Mode StandsIn X Z g h rules refl refl

  goes : (n : ℕ) → Contains (uses g) n → G n n
  goes = may_go Mode StandsIn X Z g h rules refl refl

  held : (n : ℕ) → Contains (code_targets g) n → H n n
  held = may_hold Mode StandsIn X Z g h rules refl refl

  abbrev pub place : IsAt g.blocks block
  place = located g.blocks block has

  abbrev pub x : Block
  x = place.block

  abbrev back : List Block
  back = place.back

  abbrev pub out : List Item
  out = take length (drop at x.items)

  abbrev pub rest : List Item
  rest = drop (at + length) x.items

  abbrev pub behind : List Line
  behind = map line_of rest ++ term_lines x.term (lines_of back)

  whole : place.front ++ (x ∷ back) ≡ g.blocks
  whole = sym place.whole

  parts : x.items ≡ take at x.items ++ (out ++ rest)
  parts = sym (three_parts x.items at length)

  there : Contains g.blocks x
  there = stands_at g rules place.front x back whole

  bare : Block
  bare = record x { items = [] }

  ended : (b : Bool) → Alike D b None (term_lines x.term (lines_of back)) (term_lines x.term (lines_of back))
  ended b =
      let go = block_goes Mode StandsIn H G every X Z g h rules refl refl held goes place.front x back back whole refl in
      let p = carry_term D own x.term (lines_of back) (lines_of back) go.term go.slot
      (λ f. carries_lines D own every b refl (all_stay Mode StandsIn H G every X Z g h rules refl refl held goes true (place.front ++ x ∷ []) back (ahead place.front x back ∙ whole))) in
      subst (λ t. Alike D b None (term_lines x.term (lines_of back)) (term_lines t (lines_of back))) (ap (λ (w : Block). w.term) (sym (block_stays Mode StandsIn H G every X Z g h rules refl refl held goes x))) p

  slot : (m : ℕ) → links x.term ≡ true → Contains (first_name back) m → Contains (code_targets g) m
  slot m l c = slot_targets g place.front x back whole l m c

  module _ (middle : (b : Bool) → Alike D b None behind behind → Alike D b None (map line_of out ++ behind) (map line_of by ++ behind)) (lowers : (m : ℕ) → Contains (flat_map lower_names by) m → Contains (code_targets g) m) (dies : Backs D own → Alike D true None behind behind → LinksDieIn g (map line_of out ++ behind) → LinksDieIn h behind → LinksDieIn h (map line_of by ++ behind)) where
    turn : Turn D own every true true (x ∷ []) (record x { items = replaced_items x.items at length by } ∷ []) back back
    turn = item_turn Mode StandsIn X Z g h rules refl refl x back (take at x.items) out rest by parts there ended middle lowers dies slot

    after : h.blocks ≡ place.front ++ (record x { items = replaced_items x.items at length by } ∷ back)
    after = with_blocks-at (λ b. record b { items = replaced_items b.items at length by } ∷ []) g.blocks block place

    same : (n : ℕ) → Alike D false None (block_lines g n) (block_lines h n)
    same n = same_names Mode StandsIn H G every X Z g h rules refl refl held goes (x ∷ []) (record x { items = replaced_items x.items at length by } ∷ []) back refl turn place.front whole after n tt

    names : (n m : ℕ) → G n m → Alike D false None (block_lines g n) (block_lines h m)
    names n m j = subst (λ k. Alike D false None (block_lines g n) (block_lines h k)) (sym j.0) (same n)

    values : (n m : ℕ) → H n m → Contains (code_targets g) n × G n m
    values n m v = (v.1.1, (v.0, tt))

    pub replaced_follows : Follows g h
    replaced_follows = placed_follows Mode StandsIn H G every X Z g h rules refl refl held goes (x ∷ []) (record x { items = replaced_items x.items at length by } ∷ []) back refl turn place.front whole after refl carrier values names

    pub replaced_sound : ((xs : List Line) (r : ℕ) → IsLive g r xs → X xs r) → Z → IsSound g → IsSound h
    replaced_sound matters safe sound = placed_sound Mode StandsIn H G every X Z g h rules refl refl held goes (x ∷ []) (record x { items = replaced_items x.items at length by } ∷ []) back refl turn place.front whole after refl carrier values names matters safe sound

    -- PLACES. What is live at one in the second graph is so in the first, where it is in another block, or ahead of the items
    abbrev new_items : List Item
    new_items = replaced_items x.items at length by

    abbrev made : Block
    made = record x { items = new_items }

    -- the second graph has the same names, next slots and other blocks
    distinct : HasDistinctKeys (named h.blocks)
    distinct =
        subst (λ blocks. HasDistinctKeys (named blocks)) (sym after)
        (subst (λ ns. IsDistinct nat_eq ns) (sym (keys_same place.front x made back refl)) (distinct_at g rules place.front x back whole))

    other_block : (n : ℕ) → n ≢ block → block_of h n ≡ block_of g n
    other_block n differs =
        ap (λ blocks. value_of (named blocks) n) after
        ∙ others_same place.front x made back n refl (λ e. differs (e ∙ place.has_name))
        ∙ ap (λ blocks. value_of (named blocks) n) whole

    next_slot : (n : ℕ) → next_of h n ≡ next_of g n
    next_slot n = ap (λ blocks. next_key (named blocks) n) after ∙ next_same place.front x made back n refl ∙ ap (λ blocks. next_key (named blocks) n) whole

    -- a slot goes on like itself
    slots_alike : (o : Option ℕ) → Alike D true None (slot_lines g.blocks o) (slot_lines h.blocks o)
    slots_alike None = ends
    slots_alike (Some n) = name_before (name_after (guarded (same n)))

    slots_go : (o : Option ℕ) → ((n : ℕ) → o ≡ Some n → Contains (code_targets g) n) → SlotGoes D own (slot_name (slot_lines g.blocks o)) (slot_name (slot_lines h.blocks o))
    slots_go None t = tt
    slots_go (Some n) t = held n (t n refl)

    keep_items : (items : List Item) (xs ys : List Line) → AreOf D own (ItemGoes D own) items → Alike D true None xs ys → Alike D true None (map line_of items ++ xs) (map line_of items ++ ys)
    keep_items items xs ys each p = subst (λ is. Alike D true None (map line_of items ++ xs) (map line_of is ++ ys)) (own_items items) (carry_items D own items xs ys each p)

    items_ok : (z : Block) → Contains g.blocks z → AreOf D own (ItemGoes D own) z.items
    items_ok z c = items_stay Mode StandsIn H G every X Z g h rules refl refl held goes z c

    -- a place in another block
    other_alike : (z : Block) (front bs : List Block) → front ++ (z ∷ bs) ≡ g.blocks → z.name ≢ block → (spot : ℕ) → spot ≤ count z.items → Alike D true None (place_lines g z.name spot) (place_lines h z.name spot)
    other_alike z front bs e differs spot l =
        let found = block_at g rules front z bs e in
        let o = next_of g z.name in
        let first : o ≡ first_key (named bs) = ap first_key (subst (λ cs. entries_behind (named cs) z.name ≡ named bs) e (next_at front z bs (absent_from front z bs (distinct_at g rules front z bs e)))) in
        let before : place_lines g z.name spot ≡ map line_of (drop spot z.items) ++ term_lines z.term (slot_lines g.blocks o) =
        ap (drop spot) (leads g.blocks z.name z rules.distinct found) ∙ behind_items z.items spot (term_lines z.term (slot_lines g.blocks o)) l in
        let later : place_lines h z.name spot ≡ map line_of (drop spot z.items) ++ term_lines z.term (slot_lines h.blocks o) =
        ap (drop spot) (leads h.blocks z.name z distinct (other_block z.name differs ∙ found) ∙ ap (λ k. body_lines z (slot_lines h.blocks k)) (next_slot z.name)) ∙ behind_items z.items spot (term_lines z.term (slot_lines h.blocks o)) l in
        let c = stands_at g rules front z bs e in
        let term : Alike D true None (term_lines z.term (slot_lines g.blocks o)) (term_lines z.term (slot_lines h.blocks o)) =
        subst (λ t. Alike D true None (term_lines z.term (slot_lines g.blocks o)) (term_lines t (slot_lines h.blocks o))) (ap (λ (w : Block). w.term) (sym (block_stays Mode StandsIn H G every X Z g h rules refl refl held goes z)))
        (carry_term D own z.term (slot_lines g.blocks o) (slot_lines h.blocks o) (λ n d. (refl, tt)) (λ k. slots_go o (λ n i. slot_targets g front z bs e k n (first_in bs n (sym first ∙ i)))) (λ f. slots_alike o)) in
        subst (λ xs. Alike D true None xs (place_lines h z.name spot)) (sym before)
        (subst (λ ys. Alike D true None (map line_of (drop spot z.items) ++ term_lines z.term (slot_lines g.blocks o)) ys) (sym later)
        (keep_items (drop spot z.items) (term_lines z.term (slot_lines g.blocks o)) (term_lines z.term (slot_lines h.blocks o)) (λ item d. items_ok z c item (drop_in z.items spot item d)) term))
      where
        first_in : (bs : List Block) (n : ℕ) → first_key (named bs) ≡ Some n → Contains (first_name bs) n
        first_in [] n e = absurd (cc)
        first_in (w ∷ bs) n e = subst (λ k. Contains (w.name ∷ []) k) (same_some w.name n e) (contains_first w.name [])

    -- a place ahead of the items
    ahead_alike : at ≤ count x.items → (spot : ℕ) → spot ≤ at → Alike D true None (place_lines g block spot) (place_lines h block spot)
    ahead_alike within spot l =
        let first = take at x.items in
        let fits : spot ≤ count first = (let n = length-take-le at x.items within in omega (arith, l, n)) in
        let absent = absent_from place.front x back (distinct_at g rules place.front x back whole) in
        let before : block_lines g block ≡ map line_of first ++ (map line_of out ++ behind) =
        subst (λ k. behind_name k (lines_of g.blocks) ≡ body_lines x (lines_of back)) place.has_name (subst (λ cs. behind_name x.name (lines_of cs) ≡ body_lines x (lines_of back)) whole (name_at place.front x back absent))
        ∙ ap (λ is. map line_of is ++ term_lines x.term (lines_of back)) parts ∙ with_others first out rest (term_lines x.term (lines_of back)) in
        let later : block_lines h block ≡ map line_of first ++ (map line_of by ++ behind) =
        subst (λ k. behind_name k (lines_of h.blocks) ≡ body_lines made (lines_of back)) place.has_name (subst (λ cs. behind_name x.name (lines_of cs) ≡ body_lines made (lines_of back)) (sym after) (name_at place.front made back absent))
        ∙ with_others first by rest (term_lines x.term (lines_of back)) in
        subst (λ xs. Alike D true None xs (place_lines h block spot)) (sym (ap (drop spot) before ∙ behind_items first spot (map line_of out ++ behind) fits))
        (subst (λ ys. Alike D true None (map line_of (drop spot first) ++ (map line_of out ++ behind)) ys) (sym (ap (drop spot) later ∙ behind_items first spot (map line_of by ++ behind) fits))
        (keep_items (drop spot first) (map line_of out ++ behind) (map line_of by ++ behind) (λ item d. items_ok x there item (take_in x.items at item (drop_in first spot item d)))
        (middle true (keep_items rest (term_lines x.term (lines_of back)) (term_lines x.term (lines_of back)) (λ item d. items_ok x there item (drop_in x.items (at + length) item d)) (ended true)))))

    -- a place behind the items
    behind_alike : at + length ≤ count x.items → (spot : ℕ) → (at + length) + spot ≤ count x.items → Alike D true None (place_lines g block ((at + length) + spot)) (place_lines h block ((at + count by) + spot))
    behind_alike within spot l =
        let ending = term_lines x.term (lines_of back) in
        let absent = absent_from place.front x back (distinct_at g rules place.front x back whole) in
        let first_many : count (take at x.items) ≡ at = length-take-le at x.items (omega (arith, within)) in
        let left : drop ((at + count by) + spot) new_items ≡ drop ((at + length) + spot) x.items =
        ap (λ k. drop k new_items) (let e : (at + count by) + spot ≡ at + (count by + spot) = omega arith in e)
        ∙ drop_past (take at x.items) (by ++ rest) at (count by + spot) first_many
        ∙ drop_past by rest (count by) spot refl ∙ drop-drop spot (at + length) x.items in
        let fits : (at + count by) + spot ≤ count new_items =
        (let a = length-append (take at x.items) (by ++ rest) in let b = length-append by rest in let c = length-drop (at + length) x.items in omega (arith, first_many, a, b, c, l)) in
        let before : place_lines g block ((at + length) + spot) ≡ map line_of (drop ((at + length) + spot) x.items) ++ ending =
        ap (drop ((at + length) + spot)) (subst (λ k. behind_name k (lines_of g.blocks) ≡ body_lines x (lines_of back)) place.has_name (subst (λ cs. behind_name x.name (lines_of cs) ≡ body_lines x (lines_of back)) whole (name_at place.front x back absent)))
        ∙ behind_items x.items ((at + length) + spot) ending l in
        let later : place_lines h block ((at + count by) + spot) ≡ map line_of (drop ((at + length) + spot) x.items) ++ ending =
        ap (drop ((at + count by) + spot)) (subst (λ k. behind_name k (lines_of h.blocks) ≡ body_lines made (lines_of back)) place.has_name (subst (λ cs. behind_name x.name (lines_of cs) ≡ body_lines made (lines_of back)) (sym after) (name_at place.front made back absent)))
        ∙ behind_items new_items ((at + count by) + spot) ending fits ∙ ap (λ is. map line_of is ++ ending) left in
        subst (λ xs. Alike D true None xs (place_lines h block ((at + count by) + spot))) (sym before)
        (subst (λ ys. Alike D true None (map line_of (drop ((at + length) + spot) x.items) ++ ending) ys) (sym later)
        (keep_items (drop ((at + length) + spot) x.items) ending ending (λ item d. items_ok x there item (drop_in x.items ((at + length) + spot) item d)) (ended true)))

    x_items : items_of g block ≡ x.items
    x_items = ap block_items (subst (λ k. value_of (named g.blocks) k ≡ Some x) place.has_name (block_at g rules place.front x back whole))

    pub replaced_moves : ((xs : List Line) (r : ℕ) → IsLive g r xs → X xs r) → Z → at + length ≤ count x.items → (spot r : ℕ) → (at + length) + spot ≤ count (items_of g block) → IsLive h r (place_lines h block ((at + count by) + spot)) → IsLive g r (place_lines g block ((at + length) + spot))
    replaced_moves matters safe within spot r l live =
        let backs = placed_backs Mode StandsIn H G every X Z g h rules refl refl held goes (x ∷ []) (made ∷ []) back refl turn place.front whole after refl carrier values names matters safe in
        let o = backs r (place_lines h block ((at + count by) + spot)) live true None (place_lines g block ((at + length) + spot)) (behind_alike within spot (subst (λ items. (at + length) + spot ≤ count items) x_items l)) in
        let is : r ≡ o.0 = o.1.0 in
        subst (λ q. IsLive g q (place_lines g block ((at + length) + spot))) (sym is) o.1.1

    pub replaced_live : ((xs : List Line) (r : ℕ) → IsLive g r xs → X xs r) → Z → at ≤ count x.items → (other spot r : ℕ) → HasBlock g other → spot ≤ count (items_of g other) → (other ≡ block → spot ≤ at) → IsLive h r (place_lines h other spot) → IsLive g r (place_lines g other spot)
    replaced_live matters safe within other spot r has_other l ahead_of live =
        let backs = placed_backs Mode StandsIn H G every X Z g h rules refl refl held goes (x ∷ []) (made ∷ []) back refl turn place.front whole after refl carrier values names matters safe in
        let o = backs r (place_lines h other spot) live true None (place_lines g other spot) (alike (cases_eq other block)) in
        let is : r ≡ o.0 = o.1.0 in
        subst (λ q. IsLive g q (place_lines g other spot)) (sym is) o.1.1
      where
        alike : (other ≡ block) ⊎ (other ≢ block) → Alike D true None (place_lines g other spot) (place_lines h other spot)
        alike (inl here) = subst (λ n. Alike D true None (place_lines g n spot) (place_lines h n spot)) (sym here) (ahead_alike within spot (ahead_of here))
        alike (inr differs) =
            let at' = located g.blocks other has_other in
            let e : at'.front ++ (at'.block ∷ at'.back) ≡ g.blocks = sym at'.whole in
            let are : items_of g other ≡ at'.block.items = ap block_items (subst (λ k. value_of (named g.blocks) k ≡ Some at'.block) at'.has_name (block_at g rules at'.front at'.block at'.back e)) in
            subst (λ n. Alike D true None (place_lines g n spot) (place_lines h n spot)) at'.has_name
            (other_alike at'.block at'.front at'.back e (λ i. differs (sym at'.has_name ∙ i)) spot (subst (λ items. spot ≤ count items) are l))
