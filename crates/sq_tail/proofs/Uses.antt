-- A graph with a Jump in place of the end of a block: which names it uses, and which blocks are fallen into.
use Rattle.std.proofs.Common.{◌≡◌, ◌≢◌, ◌⊎◌, ℕ, ◌+◌, ◌≤◌, ◌==◌, Bool, true, false, ◌||◌, if◌then◌else◌, List, [], ◌∷◌, ◌++◌, take, drop, length, Option, Some, inl, inr, refl, sym, ap, ◌∙◌, subst, take-append-drop, arith}
use Rattle.std.specs.List.{All}
use Rattle.std.proofs.lemmas.Bool.{cases_Bool, or_left, or_right, eqb-true, eq-eqb, or_cases}
use Rattle.std.proofs.lemmas.List.{append-nil, drop_all}
use Rattle.std.proofs.lemmas.List.Concat.{flat_map-append}
use Rattle.std.proofs.lemmas.List.Elements.{All-cons, All-tail, All-append}
use Rattle.std.proofs.Math.Bool.{and-false}
use Rattle.sq_arena.specs.Entries.{value_of}
use Rattle.sq_isa.specs.Registers.{is_among}
use Rattle.sq_graph.specs.Graph.{Block, Graph}
use Rattle.sq_graph.specs.Blocks.{named, HasBlock, block_of, block_items, block_term, items_of, term_of, items_of_blocks, items_of_bodies, all_items}
use Rattle.sq_graph.specs.Leaders.{has_no_items, is_fall, is_bare, FallsIntoLeaders}
use Rattle.sq_graph.specs.Uses.{term_uses, item_uses, items_uses, terms_uses, uses}
use Rattle.sq_graph.proofs.Changes.{with_blocks-at}
use Rattle.sq_graph.proofs.Eachs.{All-left, All-right}
use Rattle.sq_graph.proofs.Located.{IsAt, located}
use Rattle.sq_graph.proofs.Marks.{is_among-append}
use Rattle.sq_graph.proofs.SlotReads.{block_at}
use Rattle.sq_layout.proofs.Standing.{block_of-changed}
use Rattle.sq_lookup.specs.Counts.{times_named, word_uses}
use Rattle.sq_lookup.specs.Names.{held_uses}
use Rattle.sq_lookup.proofs.Counting.{times-append, some_times, none_times, times_some, among_uses}
use Rattle.law_patch.specs.Merges.{merged}
use Rattle.sq_tail.specs.Names.{end_uses}
use Rattle.sq_tail.proofs.Merging.{ended, merged_blocks}

-- LISTS OF NAMES

abbrev pub In : List ℕ → ℕ → Type 0
In us k = is_among us k ≡ true

pub in_either : (us vs : List ℕ) (k : ℕ) → In (us ++ vs) k → In us k ⊎ In vs k
in_either us vs k e = or_cases (is_among us k) (is_among vs k) (sym (is_among-append us vs k) ∙ e)

pub in_left : (us vs : List ℕ) (k : ℕ) → In us k → In (us ++ vs) k
in_left us vs k e = is_among-append us vs k ∙ or_left (is_among us k) (is_among vs k) e

pub in_right : (us vs : List ℕ) (k : ℕ) → In vs k → In (us ++ vs) k
in_right us vs k e = is_among-append us vs k ∙ or_right (is_among us k) (is_among vs k) e

-- two lists with the same names
same_in : (us vs : List ℕ) (k : ℕ) → (In us k → In vs k) → (In vs k → In us k) → is_among us k ≡ is_among vs k
same_in us vs k there back = by (is_among us k) (is_among vs k) there back
  where
    by : (a b : Bool) → (a ≡ true → b ≡ true) → (b ≡ true → a ≡ true) → a ≡ b
    by true b there back = sym (there refl)
    by false true there back = back refl
    by false false there back = refl

-- THE NAMES OF BLOCKS

terms_parts : (front back : List Block) (b : Block) → terms_uses (front ++ b ∷ back) ≡ terms_uses front ++ (term_uses b.term ++ terms_uses back)
terms_parts front back b = flat_map-append (λ (c : Block). term_uses c.term) front (b ∷ back)

items_parts : (front back : List Block) (b : Block) → items_uses (items_of_blocks (front ++ b ∷ back)) ≡ items_uses (items_of_blocks front) ++ (items_uses b.items ++ items_uses (items_of_blocks back))
items_parts front back b =
    ap items_uses (flat_map-append (λ (c : Block). c.items) front (b ∷ back))
    ∙ flat_map-append item_uses (items_of_blocks front) (b.items ++ items_of_blocks back)
    ∙ ap (λ (us : List ℕ). items_uses (items_of_blocks front) ++ us) (flat_map-append item_uses b.items (items_of_blocks back))

items_in : (bs : List Block) (m k : ℕ) → In (items_uses (block_items (value_of (named bs) m))) k → In (items_uses (items_of_blocks bs)) k
items_in [] m k e = absurd (cc)
items_in (b ∷ bs) m k e = subst (λ (us : List ℕ). In us k) (sym (flat_map-append item_uses b.items (items_of_blocks bs))) (here (b.name == m) (items_in bs m k) e)
  where
    here : (t : Bool) → (In (items_uses (block_items (value_of (named bs) m))) k → In (items_uses (items_of_blocks bs)) k) → In (items_uses (block_items (if t then Some b else value_of (named bs) m))) k → In (items_uses b.items ++ items_uses (items_of_blocks bs)) k
    here true later e = in_left (items_uses b.items) (items_uses (items_of_blocks bs)) k e
    here false later e = in_right (items_uses b.items) (items_uses (items_of_blocks bs)) k (later e)

-- BLOCKS THAT ARE FALLEN INTO

module _ (leads others : ℕ → Bool) (more : (k : ℕ) → leads k ≡ true → others k ≡ true) where
  pub falls_more : (bs : List Block) → FallsIntoLeaders leads bs → FallsIntoLeaders others bs
  falls_more [] falls = tt
  falls_more (b ∷ []) falls = tt
  falls_more (b ∷ next ∷ bs) falls = (λ fall. more next.name (falls.0 fall), falls_more (next ∷ bs) falls.1)

  -- one block doesn't fall any more
  falls_changed : (front back : List Block) (b c : Block) → c.name ≡ b.name → is_fall c.term ≡ false → FallsIntoLeaders leads (front ++ b ∷ back) → FallsIntoLeaders others (front ++ c ∷ back)
  falls_changed [] [] b c name ends falls = tt
  falls_changed [] (d ∷ back) b c name ends falls = (λ fall. absurd (cc), falls_more (d ∷ back) falls.1)
  falls_changed (x ∷ []) back b c name ends falls = (λ fall. subst (λ n. others n ≡ true) (sym name) (more b.name (falls.0 fall)), falls_changed [] back b c name ends falls.1)
  falls_changed (x ∷ y ∷ front) back b c name ends falls = (λ fall. more y.name (falls.0 fall), falls_changed (y ∷ front) back b c name ends falls.1)

-- THE END OF A BLOCK BECOMES A JUMP

module _ (s : Graph) (dropped at to : ℕ) where
  pub record CanEnd : Type 0 where
    pub has : HasBlock s dropped
    pub apart : to ≢ dropped
    pub whole : length (items_of s dropped) ≤ at + length (items_of s to)
    pub same : (k : ℕ) → In (items_uses (drop at (items_of s dropped))) k → In (items_uses (items_of s to)) k
    pub solid : All (λ b. is_bare b ≡ false) s.blocks
    pub falls : FallsIntoLeaders (λ n. is_among (uses s) n || n == to) s.blocks

  module _ (c : CanEnd) where
    abbrev n : ℕ
    n = length (items_of s to)

    abbrev h : Graph
    h = merged s dropped at to

    spot : IsAt s.blocks dropped
    spot = located s.blocks dropped c.has

    abbrev new_block : Block
    new_block = ended to at n spot.block

    found : block_of s dropped ≡ Some spot.block
    found = block_at s.blocks dropped spot

    now : h.blocks ≡ spot.front ++ new_block ∷ spot.back
    now = merged_blocks s dropped at to ∙ with_blocks-at (λ b. ended to at n b ∷ []) s.blocks dropped spot

    still : (m : ℕ) → m ≢ dropped → block_of h m ≡ block_of s m
    still m other = ap (λ (bs : List Block). value_of (named bs) m) (merged_blocks s dropped at to) ∙ block_of-changed (ended to at n) s.blocks dropped m (λ b. refl) other

    gone_is : drop at (items_of s dropped) ≡ drop at spot.block.items
    gone_is = ap (λ (o : Option Block). drop at (block_items o)) found

    new_items : new_block.items ≡ take at spot.block.items
    new_items =
        let past : length spot.block.items ≤ at + n = subst (λ (o : Option Block). length (block_items o) ≤ at + n) found c.whole in
        ap (λ is. take at spot.block.items ++ is) (drop_all (at + n) spot.block.items past) ∙ append-nil (take at spot.block.items)

    -- items name what they named before, but those that went
    pub ended_items : (k : ℕ) → times_named (items_uses (drop at (items_of s dropped))) k + times_named (items_uses (all_items (merged s dropped at to))) k ≡ times_named (items_uses (all_items s)) k
    ended_items k =
        let T = λ (us : List ℕ). times_named us k in
        let front = items_uses (items_of_blocks spot.front) in
        let back = items_uses (items_of_blocks spot.back) in
        let bodies = items_uses (items_of_bodies s.procedures) in
        let is = spot.block.items in
        omega (
          arith,
          ap (λ is. T (items_uses is)) gone_is,
          ap T (flat_map-append item_uses (items_of_blocks s.blocks) (items_of_bodies s.procedures)),
          ap T (flat_map-append item_uses (items_of_blocks h.blocks) (items_of_bodies s.procedures)),
          times-append (items_uses (items_of_blocks s.blocks)) bodies k,
          times-append (items_uses (items_of_blocks h.blocks)) bodies k,
          ap T (ap (λ (bs : List Block). items_uses (items_of_blocks bs)) spot.whole ∙ items_parts spot.front spot.back spot.block),
          ap T (ap (λ (bs : List Block). items_uses (items_of_blocks bs)) now ∙ items_parts spot.front spot.back new_block),
          times-append front (items_uses is ++ back) k,
          times-append (items_uses is) back k,
          times-append front (items_uses new_block.items ++ back) k,
          times-append (items_uses new_block.items) back k,
          ap (λ is. T (items_uses is)) new_items,
          ap (λ is. T (items_uses is)) (sym (take-append-drop at is)),
          ap T (flat_map-append item_uses (take at is) (drop at is)),
          times-append (items_uses (take at is)) (items_uses (drop at is)) k,
        )

    -- each name of those that went is one of the target's
    gone_still : (k : ℕ) → In (items_uses (drop at (items_of s dropped))) k → In (items_uses (all_items h)) k
    gone_still k gone =
        let there : In (items_uses (items_of h to)) k = subst (λ (o : Option Block). In (items_uses (block_items o)) k) (sym (still to c.apart)) (c.same k gone) in
        subst (λ (us : List ℕ). In us k) (sym (flat_map-append item_uses (items_of_blocks h.blocks) (items_of_bodies h.procedures)))
        (in_left (items_uses (items_of_blocks h.blocks)) (items_uses (items_of_bodies h.procedures)) k (items_in h.blocks to k there))

    -- so the names stay
    items_same : (k : ℕ) → is_among (items_uses (all_items h)) k ≡ is_among (items_uses (all_items s)) k
    items_same k =
        same_in (items_uses (all_items h)) (items_uses (all_items s)) k
        (λ now. times_some (items_uses (all_items s)) k (omega (arith, some_times (items_uses (all_items h)) k now, ended_items k)))
        (λ was.
        elim (cases_Bool (is_among (items_uses (drop at (items_of s dropped))) k)) [
          | inl gone ↦ gone_still k gone
          | inr stays ↦
              times_some (items_uses (all_items h)) k
              (omega (arith, some_times (items_uses (all_items s)) k was, ended_items k, none_times (items_uses (drop at (items_of s dropped))) k stays))
        ])

    -- so do those that are held
    ended_held : (k : ℕ) → is_among (held_uses h) k ≡ is_among (held_uses s) k
    ended_held k =
        is_among-append (word_uses s) (items_uses (all_items h)) k ∙ ap (λ t. is_among (word_uses s) k || t) (items_same k)
        ∙ sym (is_among-append (word_uses s) (items_uses (all_items s)) k)

    end_is : end_uses (term_of s dropped) ≡ term_uses spot.block.term
    end_is = ap (λ (o : Option Block). end_uses (block_term o)) found

    -- and one term names another block
    pub ended_terms : (k : ℕ) → times_named (terms_uses (merged s dropped at to).blocks) k + times_named (end_uses (term_of s dropped)) k ≡ times_named (to ∷ []) k + times_named (terms_uses s.blocks) k
    ended_terms k =
        let front = terms_uses spot.front in
        let back = terms_uses spot.back in
        let own = term_uses spot.block.term in
        omega (
          arith,
          ap (λ us. times_named us k) (ap terms_uses now ∙ terms_parts spot.front spot.back new_block),
          ap (λ us. times_named us k) (ap terms_uses spot.whole ∙ terms_parts spot.front spot.back spot.block),
          ap (λ us. times_named us k) end_is,
          times-append front ((to ∷ []) ++ back) k,
          times-append (to ∷ []) back k,
          times-append front (own ++ back) k,
          times-append own back k,
        )

    jump_in : In (uses h) to
    jump_in =
        let one : 1 ≤ times_named (to ∷ []) to = some_times (to ∷ []) to (or_left (to == to) false (eq-eqb to to refl)) in
        let few : times_named (end_uses (term_of s dropped)) to ≤ times_named (terms_uses s.blocks) to =
        omega (
          arith,
          ap (λ us. times_named us to) end_is,
          ap (λ us. times_named us to) (ap terms_uses spot.whole ∙ terms_parts spot.front spot.back spot.block),
          times-append (terms_uses spot.front) (term_uses spot.block.term ++ terms_uses spot.back) to,
          times-append (term_uses spot.block.term) (terms_uses spot.back) to,
        ) in
        among_uses h to ∙ or_right (is_among (held_uses h) to) (is_among (terms_uses h.blocks) to) (times_some (terms_uses h.blocks) to (omega (arith, one, few, ended_terms to)))

    -- a name that was used is used still, or the dropped end used it
    leads_still : (k : ℕ) → (is_among (uses s) k || k == to) ≡ true → (is_among (end_uses (term_of s dropped)) k || is_among (uses h) k) ≡ true
    leads_still k e =
        let own = is_among (end_uses (term_of s dropped)) k in
        elim (or_cases (is_among (uses s) k) (k == to) e) [
          | inr this ↦ or_right own (is_among (uses h) k) (subst (λ m. In (uses h) m) (sym (eqb-true k to this)) jump_in)
          | inl used ↦
              elim (cases_Bool (is_among (end_uses (term_of s dropped)) k)) [
                | inl here ↦ or_left own (is_among (uses h) k) here
                | inr other ↦
                    or_right own (is_among (uses h) k)
                    (among_uses h k
                    ∙ elim (or_cases (is_among (held_uses s) k) (is_among (terms_uses s.blocks) k) (sym (among_uses s k) ∙ used)) [
                      | inl held ↦ or_left (is_among (held_uses h) k) (is_among (terms_uses h.blocks) k) (ended_held k ∙ held)
                      | inr term ↦
                          or_right (is_among (held_uses h) k) (is_among (terms_uses h.blocks) k)
                          (times_some (terms_uses h.blocks) k (omega (arith, some_times (terms_uses s.blocks) k term, none_times (end_uses (term_of s dropped)) k other, ended_terms k)))
                    ])
              ]
        ]

    pub ended_solid : All (λ b. is_bare b ≡ false) (merged s dropped at to).blocks
    ended_solid =
        let P : Block → Type 0 = λ b. is_bare b ≡ false in
        subst (λ (bs : List Block). All (λ b. is_bare b ≡ false) bs) (sym now)
        (All-append P spot.front (new_block ∷ spot.back) (All-left P spot.front (spot.block ∷ spot.back) (subst (λ (bs : List Block). All (λ b. is_bare b ≡ false) bs) spot.whole c.solid))
        (All-cons P new_block spot.back (and-false (has_no_items new_block.items)) (All-tail P spot.block spot.back (All-right P spot.front (spot.block ∷ spot.back) (subst (λ (bs : List Block). All (λ b. is_bare b ≡ false) bs) spot.whole c.solid)))))

    pub ended_falls : FallsIntoLeaders (λ k. is_among (end_uses (term_of s dropped)) k || is_among (uses (merged s dropped at to)) k) (merged s dropped at to).blocks
    ended_falls =
        subst (λ (bs : List Block). FallsIntoLeaders (λ k. is_among (end_uses (term_of s dropped)) k || is_among (uses h) k) bs) (sym now)
        (falls_changed (λ k. is_among (uses s) k || k == to) (λ k. is_among (end_uses (term_of s dropped)) k || is_among (uses h) k) leads_still spot.front spot.back spot.block new_block refl refl
        (subst (λ (bs : List Block). FallsIntoLeaders (λ k. is_among (uses s) k || k == to) bs) spot.whole c.falls))
