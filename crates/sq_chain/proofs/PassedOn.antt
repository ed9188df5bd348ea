-- Terms that name a block which is empty with Fall name the next one in its place, and the canonical graph stays.
use Rattle.std.proofs.Common.{◌≡◌, ◌≢◌, ℕ, ◌+◌, ◌*◌, ◌≤◌, ◌==◌, Bool, true, false, ◌&&◌, ◌||◌, not, if◌then◌else◌, List, [], ◌∷◌, ◌++◌, map, length, sum_by, Option, None, Some, IsSome, is_some, Result, Ok, Err, OnOk, is_err, inl, inr, refl, sym, ap, ◌∙◌, subst, arith, append_assoc}
use Rattle.std.specs.List.{All}
use Rattle.std.specs.Option.{option_map}
use Rattle.std.proofs.lemmas.Bool.{cases_Bool, eqb-true, eq-eqb, ne_eqb, or_left}
use Rattle.std.proofs.lemmas.List.{append-nil}
use Rattle.std.proofs.lemmas.List.Elements.{All-nil, All-cons, All-head, All-map, All-weaker}
use Rattle.std.proofs.lemmas.List.Sums.{sum_by-cons}
use Rattle.sq_arena.specs.Entries.{HasDistinctKeys, value_of, first_key, next_key}
use Rattle.sq_arena.proofs.EntriesLaws.{absent_ahead, distinct_back}
use Rattle.sq_isa.specs.Registers.{is_among}
use Rattle.sq_graph.specs.declared.item.Term.{Term}
use Rattle.sq_graph.specs.declared.item.Term.TheVariants.{Fall, Jump, Branch, Call, PartJump, Indirect, Stop}
use Rattle.sq_graph.specs.Graph.{Block, Graph}
use Rattle.sq_graph.specs.Blocks.{named, HasBlock, block_of, block_term, term_of, next_of, items_of_blocks, items_of_bodies, all_items}
use Rattle.sq_graph.specs.Bypasses.{first_name, kept, passed}
use Rattle.sq_graph.specs.Canonical.{joined, canonical_of}
use Rattle.sq_graph.specs.Leaders.{is_fall, has_no_items, is_bare, FallsIntoLeaders}
use Rattle.sq_graph.specs.Operations.{with_blocks, with_term}
use Rattle.sq_graph.specs.Renames.{retargeted_term, retargeted_items, retargeted_block, retargeted, swapped}
use Rattle.sq_graph.specs.Rules.{IsGraph, TermFits}
use Rattle.sq_graph.specs.Terms.{goes_on}
use Rattle.sq_graph.specs.Uses.{term_uses, terms_uses, items_uses, code_word_uses, uses}
use Rattle.sq_graph.specs.Words.{term_words, block_words}
use Rattle.sq_graph.proofs.Bypassing.{passed-behind, passed-bare, bare_falls, is_fall-other, term_twice}
use Rattle.sq_graph.proofs.CanonicalLaws.{canonical_is_joined, term_words-other}
use Rattle.sq_graph.proofs.Changes.{items_of_blocks-kept}
use Rattle.sq_graph.proofs.Eachs.{All-right}
use Rattle.sq_graph.proofs.Kept.{absent_behind}
use Rattle.sq_graph.proofs.Located.{IsAt, located, named-append}
use Rattle.sq_graph.proofs.OperationRules.{with_term_rules}
use Rattle.sq_graph.proofs.RetargetRules.{goes_on-other, term_fits, term_uses-other}
use Rattle.sq_graph.proofs.SlotReads.{block_at}
use Rattle.sq_graph.proofs.SplitRules.{flat_map-at, flat_map-changed}
use Rattle.sq_layout.specs.Weights.{address_by}
use Rattle.sq_lookup.specs.Names.{held_uses}
use Rattle.sq_lookup.specs.Counts.{count_at, times_named, AreUses, IsCounted}
use Rattle.sq_lookup.specs.declared.counts.Uses.{Uses}
use Rattle.sq_lookup.proofs.Counting.{times-append, some_times, times_some, among_uses}
use Rattle.sq_lookup.proofs.Previous.{one_before}
use Rattle.sq_lookup.proofs.Targets.{has_term}
use Rattle.sq_chain.specs.Bare.{IsBareAt, AreSolidBut}
use Rattle.sq_chain.specs.Moves.{fallen_term, fallen_blocks}
use Rattle.sq_chain.specs.Passing.{passed_block, passed_on, IsTurned, IsPassedOn, IsPassed}
use Rattle.sq_chain.specs.Surveys.{IsPlaced, NoneFalls}
use Rattle.sq_chain.specs.declared.survey.Places.{Places}
use Rattle.sq_chain.proofs.HandedOn.{handed_slot, handed_bare, handed_placed, handed_falls, handed_solid, handed_led, handed_used, handed_canonical}
use Rattle.sq_chain.proofs.Marked.{marked_passed}
use Rattle.sq_chain.proofs.OneMore.{slot_behind, slot_after}
use Rattle.sq_chain.proofs.Swapped.{swapped_bare, swap_goes, swaps_once, times_swapped}

-- the name of a block that is empty with Fall goes where the next one's goes
module _ (g : Graph) (bare next : ℕ) (rules : IsGraph g) (is : IsBareAt g bare) (slot : next_of g bare ≡ Some next) where
  -- the block among the others
  record IsAhead : Type 0 where
    pub front : List Block
    pub block : Block
    pub follows : Block
    pub rest : List Block
    pub whole : g.blocks ≡ front ++ block ∷ follows ∷ rest
    pub has_name : block.name ≡ bare
    pub next_name : follows.name ≡ next
    pub ahead : value_of (named front) bare ≡ None
    pub empty : is_bare block ≡ true

  is_ahead : IsAhead
  is_ahead =
      let at = located g.blocks bare (ap is_some is.there) in
      let same : at.block ≡ is.block = let both : Some at.block ≡ Some is.block = sym (block_at g.blocks bare at) ∙ is.there in cc in
      by_back at.front at.block at.back at.whole at.has_name at.ahead (ap is_bare same ∙ is.bare) (sym (slot_behind g.blocks bare at) ∙ slot)
    where
      by_back : (front : List Block) (b : Block) (back : List Block) → g.blocks ≡ front ++ b ∷ back → b.name ≡ bare → value_of (named front) bare ≡ None → is_bare b ≡ true → first_key (named back) ≡ Some next → IsAhead
      by_back front b [] whole name ahead empty first = absurd (cc)
      by_back front b (n ∷ rest) whole name ahead empty first =
          record { front = front; block = b; follows = n; rest = rest; whole = whole; has_name = name; next_name = let same : n.name ≡ next = cc in same; ahead = ahead; empty = empty }

  -- the next one isn't up to it
  absent : (a : IsAhead) → value_of (named (a.front ++ a.block ∷ [])) next ≡ None
  absent a =
      let split : g.blocks ≡ (a.front ++ a.block ∷ []) ++ a.follows ∷ a.rest = a.whole ∙ sym (append_assoc a.front (a.block ∷ []) (a.follows ∷ a.rest)) in
      let distinct : HasDistinctKeys (named (a.front ++ a.block ∷ []) ++ (a.follows.name, a.follows) ∷ named a.rest) =
      subst HasDistinctKeys (ap named split ∙ named-append (a.front ++ a.block ∷ []) (a.follows ∷ a.rest)) rules.distinct in
      subst (λ k. value_of (named (a.front ++ a.block ∷ [])) k ≡ None) a.next_name (absent_ahead (named (a.front ++ a.block ∷ [])) (named a.rest) a.follows.name a.follows distinct)

  pub names_go : passed g.blocks bare ≡ passed g.blocks next
  names_go =
      let a = is_ahead in
      let split : g.blocks ≡ (is_ahead.front ++ is_ahead.block ∷ []) ++ is_ahead.follows ∷ is_ahead.rest = a.whole ∙ sym (append_assoc a.front (a.block ∷ []) (a.follows ∷ a.rest)) in
      ap (λ bs. passed bs bare) a.whole ∙ passed-behind a.front (a.block ∷ a.follows ∷ a.rest) bare a.ahead
      ∙ ap (λ k. passed (a.block ∷ a.follows ∷ a.rest) k) (sym a.has_name) ∙ passed-bare a.block a.follows a.rest a.empty ∙ ap (λ k. passed (a.follows ∷ a.rest) k) a.next_name
      ∙ sym (ap (λ bs. passed bs next) split ∙ passed-behind (a.front ++ a.block ∷ []) (a.follows ∷ a.rest) next (absent a))

  -- they are two
  pub next_apart : next ≢ bare
  next_apart same =
      let a = is_ahead in
      let there : IsSome (value_of (named (is_ahead.front ++ is_ahead.block ∷ [])) bare) = behind a.front a.block a.has_name in
      absurd (cc (ap is_some (absent a), ap (λ k. is_some (value_of (named (is_ahead.front ++ is_ahead.block ∷ [])) k)) same, there))
    where
      behind : (front : List Block) (b : Block) → b.name ≡ bare → IsSome (value_of (named (front ++ b ∷ [])) bare)
      behind [] b name = rw (eq-eqb b.name bare name) refl
      behind (x ∷ front) b name = elim (cases_Bool (x.name == bare)) [ inl here ↦ rw here refl | inr apart ↦ rw apart (behind front b name) ]

-- what a call that was Ok ensures
pub added : {A E : Type 0} {P : Type 0} (r : Result A E) → OnOk r P → is_err r ≡ false → P
added (Ok x) one none = one
added (Err e) one none = absurd (cc)

-- SOME OF THE TERMS

module _ (among : ℕ → Bool) (bare next : ℕ) where
  abbrev turned : Block → Block
  turned b = passed_block among bare next b

  abbrev S : ℕ → ℕ
  S k = swapped bare next k

  -- what is the same of a term that names the other block is the same of a block's term
  same_of : {X : Type 0} (f : Term → X) → ((t : Term) → f (retargeted_term (swapped bare next) t) ≡ f t) → (b : Block) → f (turned b).term ≡ f b.term
  same_of f same b = elim (cases_Bool (among b.name)) [ inl one ↦ rw one (same b.term) | inr out ↦ rw out refl ]

  falls_same : (b : Block) → is_fall (turned b).term ≡ is_fall b.term
  falls_same b = same_of is_fall (is_fall-other S) b

  pub bare_same : (b : Block) → is_bare (turned b) ≡ is_bare b
  bare_same b = ap (λ t. has_no_items b.items && t) (falls_same b)

  words_same : (b : Block) → block_words (turned b) ≡ block_words b
  words_same b = ap (λ n. length b.items + n) (same_of term_words (term_words-other S) b)

  -- ITS BLOCKS

  pub value_turned : (bs : List Block) (k : ℕ) → value_of (named (map turned bs)) k ≡ option_map turned (value_of (named bs) k)
  value_turned [] k = refl
  value_turned (b ∷ bs) k =
      elim (cases_Bool (b.name == k)) [ inl here ↦ rw here refl | inr apart ↦ rw apart (value_turned bs k) ]

  pub led_turned : (leads : ℕ → Bool) (bs : List Block) → FallsIntoLeaders leads bs → FallsIntoLeaders leads (map turned bs)
  led_turned leads [] led = tt
  led_turned leads (b ∷ []) led = tt
  led_turned leads (b ∷ n ∷ rest) led = (λ fall. led.0 (sym (falls_same b) ∙ fall), led_turned leads (n ∷ rest) led.1)

  pub solid_turned : (may : ℕ → Bool) (bs : List Block) → All (λ b. (not (may b.name) && is_bare b) ≡ false) bs → All (λ b. (not (may b.name) && is_bare b) ≡ false) (map turned bs)
  solid_turned may bs solid =
      let P : Block → Type 0 = λ b. (not (may b.name) && is_bare b) ≡ false in
      All-map P turned bs (All-weaker P (λ b. P (turned b)) (λ b own. ap (λ t. not (may b.name) && t) (bare_same b) ∙ own) bs solid)

  term_stays : (k : ℕ) (t : Term) → (t ≡ Jump bare → k ≢ next) → fallen_term k t ≡ t → fallen_term k (retargeted_term (swapped bare next) t) ≡ retargeted_term (swapped bare next) t
  term_stays k (Jump to) off stays =
      elim (cases_Bool (to == bare)) [
        | inl here ↦
            let apart : (next == k) ≡ false = ne_eqb next k (λ same. off (ap Jump (eqb-true to bare here)) (sym same)) in
            rw here (rw apart refl)
        | inr apart ↦ rw apart stays
      ]
  term_stays k Fall off stays = refl
  term_stays k (Branch c x y to) off stays = refl
  term_stays k (Call link to) off stays = refl
  term_stays k (PartJump link part to) off stays = refl
  term_stays k (Indirect link at offset) off stays = refl
  term_stays k (Stop word) off stays = refl

  stays_turned : (k : ℕ) (b : Block) → (b.term ≡ Jump bare → k ≢ next) → record b { term = fallen_term k b.term } ≡ b → record (turned b) { term = fallen_term k (turned b).term } ≡ turned b
  stays_turned k b off stays =
      let own : fallen_term k b.term ≡ b.term = ap (λ (c : Block). c.term) stays in
      ap (λ t. record b { term = t })
      (elim (cases_Bool (among b.name)) [ inl one ↦ rw one (term_stays k b.term off own) | inr out ↦ rw out own ])

  -- no block before the other one jumps to the one
  abbrev pub IsOff : List Block → Type 0
  IsOff bs = (m : ℕ) → next_key (named bs) m ≡ Some next → block_term (value_of (named bs) m) ≢ Some (Jump bare)

  off_later : (b : Block) (bs : List Block) → HasDistinctKeys (named (b ∷ bs)) → IsOff (b ∷ bs) → IsOff bs
  off_later b bs distinct off m slot is =
      elim (cases_Bool (b.name == m)) [
        | inr apart ↦ off m (rw apart slot) (rw apart is)
        | inl same ↦
            let gone : value_of (named bs) m ≡ None = subst (λ k. value_of (named bs) k ≡ None) (eqb-true b.name m same) (absent_behind (b.name, b) (named bs) distinct) in
            absurd (cc (ap block_term gone, is))
      ]

  pub fallen_turned : (bs : List Block) → HasDistinctKeys (named bs) → IsOff bs → fallen_blocks bs ≡ bs → fallen_blocks (map turned bs) ≡ map turned bs
  fallen_turned [] distinct off falls = refl
  fallen_turned (b ∷ []) distinct off falls = refl
  fallen_turned (b ∷ n ∷ rest) distinct off falls =
      let head : record b { term = fallen_term n.name b.term } ≡ b = cc in
      let tail : fallen_blocks (n ∷ rest) ≡ n ∷ rest = cc in
      let own = eq-eqb b.name b.name refl in
      ap (λ c. c ∷ fallen_blocks (map turned (n ∷ rest))) (stays_turned n.name b (λ jump same. off b.name (rw own (ap Some same)) (rw own (ap Some jump))) head)
      ∙ ap (λ cs. turned b ∷ cs) (fallen_turned (n ∷ rest) (distinct_back ((b.name, b) ∷ []) (named (n ∷ rest)) distinct) (off_later b (n ∷ rest) distinct off) tail)

  pub addresses_turned : (bs : List Block) (at k : ℕ) → address_by block_words (map turned bs) at k ≡ address_by block_words bs at k
  addresses_turned [] at k = refl
  addresses_turned (b ∷ bs) at k =
      ap (λ w. if b.name == k then Some at else address_by block_words (map turned bs) (at + 4 * w) k) (words_same b)
      ∙ ap (λ o. if b.name == k then Some at else o) (addresses_turned bs (at + 4 * block_words b) k)

  pub words_turned : (bs : List Block) → sum_by block_words (map turned bs) ≡ sum_by block_words bs
  words_turned [] = refl
  words_turned (b ∷ bs) =
      omega (arith, words_turned bs, words_same b, sum_by-cons block_words b bs, sum_by-cons block_words (turned b) (map turned bs))

  pub items_turned : (bs : List Block) → items_of_blocks (map turned bs) ≡ items_of_blocks bs
  items_turned [] = refl
  items_turned (b ∷ bs) = ap (λ is. b.items ++ is) (items_turned bs)

  -- each use of another name stays
  times_turned : (bs : List Block) (m : ℕ) → m ≢ bare → times_named (terms_uses bs) m ≤ times_named (terms_uses (map turned bs)) m
  times_turned [] m other = omega arith
  times_turned (b ∷ bs) m other =
      omega (
        arith,
        times_turned bs m other,
        own,
        times-append (term_uses b.term) (terms_uses bs) m,
        times-append (term_uses (turned b).term) (terms_uses (map turned bs)) m,
      )
    where
      own : times_named (term_uses b.term) m ≤ times_named (term_uses (turned b).term) m
      own =
          elim (cases_Bool (among b.name)) [
            | inl one ↦
                let all = ap (λ us. times_named us m) (term_uses-other S (λ c. c.name) b.term) in
                rw one (omega (arith, times_swapped bare next (term_uses b.term) m other, all))
            | inr out ↦ rw out (omega arith)
          ]

  -- WHERE NAMES GO

  first_turned : (bs : List Block) (k : ℕ) → first_name (map turned bs) k ≡ first_name bs k
  first_turned [] k = refl
  first_turned (b ∷ bs) k = refl

  passed_turned : (bs : List Block) (k : ℕ) → passed (map turned bs) k ≡ passed bs k
  passed_turned [] k = refl
  passed_turned (b ∷ bs) k =
      ap (λ t. passed (map turned bs) (if t then swapped b.name (first_name (map turned bs) k) k else k)) (bare_same b)
      ∙ ap (λ n. passed (map turned bs) (if is_bare b then swapped b.name n k else k)) (first_turned bs k)
      ∙ passed_turned bs (if is_bare b then swapped b.name (first_name bs k) k else k)

  block_again : (f : ℕ → ℕ) → f bare ≡ f next → (b : Block) → retargeted_block f (turned b) ≡ retargeted_block f b
  block_again f same b =
      let go = λ (t : Term). term_twice S f t ∙ ap (λ to. retargeted_term to t) (swap_goes bare next f same) in
      ap (λ t. record { name = b.name; items = retargeted_items f b.items; term = t }) (same_of (retargeted_term f) go b)

  kept_turned : (f : ℕ → ℕ) → f bare ≡ f next → (bs : List Block) → map (retargeted_block f) (kept (map turned bs)) ≡ map (retargeted_block f) (kept bs)
  kept_turned f same [] = refl
  kept_turned f same (b ∷ bs) =
      ap (λ t. map (retargeted_block f) (if not t then turned b ∷ kept (map turned bs) else kept (map turned bs))) (bare_same b)
      ∙ elim (cases_Bool (is_bare b)) [
        | inl bare ↦ rw bare (kept_turned f same bs)
        | inr solid ↦
            rw solid
            (ap (λ c. c ∷ map (retargeted_block f) (kept (map turned bs))) (block_again f same b)
            ∙ ap (λ cs. retargeted_block f b ∷ cs) (kept_turned f same bs))
      ]

  -- A GRAPH

  module _ (g : Graph) where
    abbrev on : Graph
    on = passed_on among bare next g

    items_on : all_items (passed_on among bare next g) ≡ all_items g
    items_on = ap (λ is. is ++ items_of_bodies g.procedures) (items_turned g.blocks)

    pub used_on : (m : ℕ) → m ≢ bare → is_among (uses g) m ≡ true → is_among (uses (passed_on among bare next g)) m ≡ true
    used_on m other used =
        let held : is_among (held_uses (passed_on among bare next g)) m ≡ is_among (held_uses g) m = ap (λ is. is_among (g.entry ∷ (code_word_uses g.code_words ++ items_uses is)) m) items_on in
        among_uses on m
        ∙ elim (cases_Bool (is_among (held_uses g) m)) [
          | inl there ↦ or_left (is_among (held_uses (passed_on among bare next g)) m) (is_among (terms_uses (map turned g.blocks)) m) (held ∙ there)
          | inr none ↦
              let own : is_among (terms_uses g.blocks) m ≡ true = ap (λ t. t || is_among (terms_uses g.blocks) m) (sym none) ∙ sym (among_uses g m) ∙ used in
              let some = some_times (terms_uses g.blocks) m own in
              ap (λ t. t || is_among (terms_uses (map turned g.blocks)) m) (held ∙ none)
              ∙ times_some (terms_uses (map turned g.blocks)) m (omega (arith, some, times_turned g.blocks m other))
        ]

    pub has_on : (k : ℕ) → HasBlock g k → HasBlock (passed_on among bare next g) k
    has_on k has = subst IsSome (sym (value_turned g.blocks k)) (by_option (block_of g k) has)
      where
        by_option : (o : Option Block) → IsSome o → IsSome (option_map turned o)
        by_option None some = absurd (cc)
        by_option (Some b) some = refl

    pub bare_on : (k : ℕ) → IsBareAt g k → IsBareAt (passed_on among bare next g) k
    bare_on k is = record {
      block = turned is.block;
      there = value_turned g.blocks k ∙ ap (option_map turned) is.there;
      bare = bare_same is.block ∙ is.bare;
    }

    pub placed_on : (places : Places) → IsPlaced g places → IsPlaced (passed_on among bare next g) places
    placed_on places placed = record {
      addresses = λ n. placed.addresses n ∙ sym (addresses_turned g.blocks 0 n);
      words = omega (arith, placed.words, words_turned g.blocks);
      branches = marked_passed among bare next g places.branches (value_turned g.blocks) placed.branches;
    }

    pub canonical_on : IsGraph g → IsBareAt g bare → next_of g bare ≡ Some next → IsGraph (passed_on among bare next g) → canonical_of (passed_on among bare next g) ≡ canonical_of g
    canonical_on rules is slot on_rules =
        let f = passed g.blocks in
        let goes : passed (map turned g.blocks) ≡ passed g.blocks = λ i k. passed_turned g.blocks k i in
        canonical_is_joined on on_rules
        ∙ ap joined
        (ap (λ p. retargeted p (record g { blocks = kept (map turned g.blocks) })) goes
        ∙ ap (λ bs. record (retargeted f g) { blocks = bs }) (kept_turned f (names_go g bare next rules is slot) g.blocks))
        ∙ sym (canonical_is_joined g rules)

-- THE SAME AGAIN

passed_twice : (A B : ℕ → Bool) (bare next : ℕ) (b : Block) → passed_block A bare next (passed_block B bare next b) ≡ passed_block (λ n. A n || B n) bare next b
passed_twice A B bare next b =
    ap (λ t. record b { term = t })
    (elim (cases_Bool (A b.name)) [
      | inr out ↦ rw out refl
      | inl one ↦ rw one (elim (cases_Bool (B b.name)) [ inl both ↦ rw both (once b.term) | inr other ↦ rw other refl ])
    ])
  where
    once : (t : Term) → retargeted_term (swapped bare next) (retargeted_term (swapped bare next) t) ≡ retargeted_term (swapped bare next) t
    once t = term_twice (swapped bare next) (swapped bare next) t ∙ ap (λ to. retargeted_term to t) (swaps_once bare next)

blocks_twice : (A B : ℕ → Bool) (bare next : ℕ) (bs : List Block) → map (passed_block A bare next) (map (passed_block B bare next) bs) ≡ map (passed_block (λ n. A n || B n) bare next) bs
blocks_twice A B bare next [] = refl
blocks_twice A B bare next (b ∷ bs) =
    ap (λ c. c ∷ map (passed_block A bare next) (map (passed_block B bare next) bs)) (passed_twice A B bare next b)
    ∙ ap (λ cs. passed_block (λ n. A n || B n) bare next b ∷ cs) (blocks_twice A B bare next bs)

-- more of them
pub passed_more : (bare next : ℕ) (g h k : Graph) → IsPassedOn bare next g h → IsPassedOn bare next h k → IsPassedOn bare next g k
passed_more bare next g h k first second = record {
  among = λ n. second.among n || first.among n;
  is =
      second.is
      ∙ ap (λ (u : Graph). passed_on second.among bare next u) first.is
      ∙ ap (λ bs. record g { blocks = bs }) (blocks_twice second.among first.among bare next g.blocks);
}

-- none of them
pub passed_none : (bare next : ℕ) (g : Graph) → IsPassedOn bare next g g
passed_none bare next g = record { among = λ n. false; is = ap (λ bs. record g { blocks = bs }) (none g.blocks) }
  where
    none : (bs : List Block) → bs ≡ map (passed_block (λ n. false) bare next) bs
    none [] = refl
    none (b ∷ bs) = ap (λ cs. b ∷ cs) (none bs)

-- ONE OF THEM

module _ (bare next : ℕ) (t new : Term) (turns : IsTurned bare next t new) where
  uses_new : term_uses new ≡ next ∷ []
  uses_new =
      let S = swapped bare next in
      ap term_uses turns.is ∙ term_uses-other S (λ b. b.name) t ∙ ap (map S) turns.was ∙ ap (λ n. n ∷ []) (swapped_bare bare next bare refl)

  turned_fits : TermFits t → TermFits new
  turned_fits fits = subst TermFits (sym turns.is) (term_fits (swapped bare next) (λ b. b.name) t fits)

  turned_goes : goes_on new ≡ true → goes_on t ≡ true
  turned_goes on = sym (ap goes_on turns.is ∙ goes_on-other (swapped bare next) (λ b. b.name) t) ∙ on

module _ (g : Graph) (m bare next : ℕ) (t new : Term) (rules : IsGraph g) (was : term_of g m ≡ Some t) (turns : IsTurned bare next t new) where
  abbrev turn : Block → List Block
  turn x = record x { term = new } ∷ []

  abbrev one : ℕ → Bool
  one n = n == m

  one_absent : (bs : List Block) → value_of (named bs) m ≡ None → bs ≡ map (passed_block one bare next) bs
  one_absent [] none = refl
  one_absent (x ∷ bs) none =
      elim (cases_Bool (x.name == m)) [
        | inl here ↦ absurd (cc (rw here at none))
        | inr apart ↦ rw apart (ap (λ cs. x ∷ cs) (one_absent bs (rw apart at none)))
      ]

  one_turned : (bs : List Block) → HasDistinctKeys (named bs) → block_term (value_of (named bs) m) ≡ Some t → with_blocks turn bs m ≡ map (passed_block one bare next) bs
  one_turned [] distinct is = absurd (cc)
  one_turned (x ∷ bs) distinct is =
      elim (cases_Bool (x.name == m)) [
        | inl here ↦
            let some : Some x.term ≡ Some t = rw here at is in
            let term : x.term ≡ t = cc in
            let gone : value_of (named bs) m ≡ None = subst (λ k. value_of (named bs) k ≡ None) (eqb-true x.name m here) (absent_behind (x.name, x) (named bs) distinct) in
            let same : new ≡ retargeted_term (swapped bare next) x.term = turns.is ∙ ap (retargeted_term (swapped bare next)) (sym term) in
            rw here (ap (λ u. record x { term = u } ∷ bs) same ∙ ap (λ cs. record x { term = retargeted_term (swapped bare next) x.term } ∷ cs) (one_absent bs gone))
        | inr apart ↦ rw apart (ap (λ cs. x ∷ cs) (one_turned bs (distinct_back ((x.name, x) ∷ []) (named bs) distinct) (rw apart at is)))
      ]

  pub passed_one : IsPassedOn bare next g (with_term g m new)
  passed_one = record { among = one; is = ap (λ bs. record g { blocks = bs }) (one_turned g.blocks rules.distinct was) }

  at : IsAt g.blocks m
  at = located g.blocks m (has_term g m t was)

  at_term : at.block.term ≡ t
  at_term = let same : Some at.block.term ≡ Some t = sym (ap block_term (block_at g.blocks m at)) ∙ was in cc

  pub one_rules : HasBlock g next → IsGraph (with_term g m new)
  one_rules has =
      let fits : TermFits at.block.term =
      All-head (λ (x : Block). TermFits x.term) at.block at.back
      (All-right (λ (x : Block). TermFits x.term) at.front (at.block ∷ at.back) (subst (λ (bs : List Block). All (λ x. TermFits x.term) bs) at.whole rules.terms)) in
      with_term_rules g m new rules (has_term g m t was)
      (turned_fits bare next t new turns (subst TermFits at_term fits))
      (subst (λ ns. All (HasBlock g) ns) (sym (uses_new bare next t new turns)) (All-cons (HasBlock g) next [] has (All-nil (HasBlock g))))
      (λ on. slot_after g m t rules was (turned_goes bare next t new turns on))

  -- one use more of the one, and one less of the other
  times_one : (k : ℕ) → (if bare == k then 1 else 0) + times_named (terms_uses (with_term g m new).blocks) k ≡ (if next == k then 1 else 0) + times_named (terms_uses g.blocks) k
  times_one k =
      omega (
        arith,
        ap (λ u. times_named (term_uses u) k) at_term,
        ap (λ us. times_named us k) turns.was,
        ap (λ us. times_named us k) (uses_new bare next t new turns),
        ap (λ us. times_named us k) (flat_map-at (λ x. term_uses x.term) g.blocks m at),
        ap (λ us. times_named us k) (flat_map-changed (λ x. term_uses x.term) turn g.blocks m at),
        times-append (terms_uses at.front) (term_uses at.block.term ++ terms_uses at.back) k,
        times-append (term_uses at.block.term) (terms_uses at.back) k,
        times-append (terms_uses at.front) ((term_uses new ++ []) ++ terms_uses at.back) k,
        times-append (term_uses new ++ []) (terms_uses at.back) k,
        times-append (term_uses new) [] k,
      )

  items_one : all_items (with_term g m new) ≡ all_items g
  items_one = ap (λ is. is ++ items_of_bodies g.procedures) (items_of_blocks-kept turn g.blocks m at (append-nil at.block.items))

  module _ (old more : Uses) (are : AreUses g old) (counted : IsCounted next old more) where
    pub still_counted : 1 ≤ count_at more.terms.items bare
    still_counted =
        let own : ◌≡◌ {A = ℕ} (if bare == bare then 1 else 0) 1 = ap (λ t. if t then 1 else 0) (eq-eqb bare bare refl) in
        omega (arith, counted.terms bare, are.terms bare, times_one bare, own)

    pub uses_one : (they : Uses) → IsCounted bare they more → AreUses (with_term g m new) they
    uses_one they less = record {
      items = λ k. ap (λ is. count_at is.items k) (sym less.items ∙ counted.items) ∙ are.items k ∙ ap (λ is. times_named (items_uses is) k) (sym items_one);
      words = λ k. ap (λ ws. count_at ws.items k) (sym less.words ∙ counted.words) ∙ are.words k;
      terms = λ k. omega (arith, less.terms k, counted.terms k, are.terms k, times_one k);
    }

-- WHAT STAYS

module _ (bare next : ℕ) (g h : Graph) (on : IsPassedOn bare next g h) where
  pub passed_has : (k : ℕ) → HasBlock g k → HasBlock h k
  passed_has k has = subst (λ (u : Graph). HasBlock u k) (sym on.is) (has_on on.among bare next g k has)

module _ (bare : ℕ) (g h : Graph) (passed : IsPassed bare g h) where
  abbrev next : ℕ
  next = passed.next

  abbrev mid : Graph
  mid = passed.mid

  mid_slot : next_of mid bare ≡ Some next
  mid_slot = handed_slot bare next g mid passed.handed bare ∙ passed.slot

  mid_bare : IsBareAt g bare → IsBareAt mid bare
  mid_bare is = handed_bare bare next g mid passed.handed bare is

  pub passed_bare : IsBareAt g bare → IsBareAt h bare
  passed_bare is = subst (λ (u : Graph). IsBareAt u bare) (sym passed.on.is) (bare_on passed.on.among bare passed.next passed.mid bare (mid_bare is))

  pub passed_placed : (places : Places) → IsPlaced g places → IsPlaced h places
  passed_placed places placed = subst (λ (u : Graph). IsPlaced u places) (sym passed.on.is) (placed_on passed.on.among bare passed.next passed.mid places (handed_placed bare next g mid passed.handed places placed))

  -- the block before the next one is the one that is empty with Fall
  off_next : IsBareAt mid bare → IsOff passed.on.among bare passed.next passed.mid.blocks
  off_next is m slot jump =
      let same : m ≡ bare = one_before mid m bare next passed.rules slot mid_slot in
      let both : Some is.block.term ≡ Some (Jump bare) = sym (ap block_term is.there) ∙ ap (term_of mid) (sym same) ∙ jump in
      let term : is.block.term ≡ Jump bare = cc in
      let fall = bare_falls is.block is.bare in
      cc (ap is_fall term, fall)

  pub passed_falls : IsBareAt g bare → NoneFalls g → NoneFalls h
  passed_falls is falls =
      subst NoneFalls (sym passed.on.is) (fallen_turned passed.on.among bare passed.next passed.mid.blocks passed.rules.distinct (off_next (mid_bare is)) (handed_falls bare next g mid passed.handed falls))

  pub passed_solid : (may : ℕ → Bool) → AreSolidBut may g → AreSolidBut may h
  passed_solid may solid =
      subst (λ (u : Graph). AreSolidBut may u) (sym passed.on.is) (solid_turned passed.on.among bare passed.next may passed.mid.blocks (handed_solid bare next g mid passed.handed may solid))

  pub passed_led : (leads : ℕ → Bool) → FallsIntoLeaders leads g.blocks → FallsIntoLeaders leads h.blocks
  passed_led leads led =
      subst (λ (u : Graph). FallsIntoLeaders leads u.blocks) (sym passed.on.is) (led_turned passed.on.among bare passed.next leads passed.mid.blocks (handed_led bare next g mid passed.handed leads led))

  pub passed_used : (m : ℕ) → m ≢ bare → is_among (uses g) m ≡ true → is_among (uses h) m ≡ true
  passed_used m other used =
      ap (λ (u : Graph). is_among (uses u) m) passed.on.is ∙ used_on passed.on.among bare passed.next passed.mid m other (handed_used bare next g mid passed.handed m other used)

  pub passed_canonical : IsGraph g → IsGraph h → IsBareAt g bare → canonical_of h ≡ canonical_of g
  passed_canonical rules h_rules is =
      ap canonical_of passed.on.is
      ∙ canonical_on passed.on.among bare passed.next passed.mid passed.rules (mid_bare is) mid_slot (subst IsGraph passed.on.is h_rules)
      ∙ handed_canonical bare next g mid passed.handed rules passed.rules (names_go g bare next rules is passed.slot)
