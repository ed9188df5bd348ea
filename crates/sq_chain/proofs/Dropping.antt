-- A block that is empty with Fall and that nothing names goes, and the canonical graph stays.
use Rattle.std.proofs.Common.{◌≡◌, ◌≢◌, ◌⊎◌, ℕ, ◌==◌, Bool, true, false, ◌&&◌, ◌||◌, not, if◌then◌else◌, List, [], ◌∷◌, ◌++◌, map, None, Some, is_some, inl, inr, refl, sym, ap, ◌∙◌, subst}
use Rattle.std.specs.List.{All}
use Rattle.std.proofs.lemmas.Bool.{cases_Bool, or_parts, eqb-true, eqb-false, eq-eqb, ne_eqb}
use Rattle.std.proofs.lemmas.List.Elements.{All-nil, All-cons, All-head, All-tail, All-weaker}
use Rattle.sq_arena.specs.Entries.{HasDistinctKeys, value_of}
use Rattle.sq_arena.proofs.EntriesLaws.{distinct_back}
use Rattle.sq_isa.specs.Registers.{is_among}
use Rattle.sq_graph.specs.declared.item.Item.{Item}
use Rattle.sq_graph.specs.declared.item.Item.TheVariants.{Op, Hi, Lo, Out}
use Rattle.sq_graph.specs.declared.item.Term.{Term}
use Rattle.sq_graph.specs.declared.item.Term.TheVariants.{Fall, Jump, Branch, Call, PartJump, Indirect, Stop}
use Rattle.sq_graph.specs.declared.parts.CodeRef.{CodeRef}
use Rattle.sq_graph.specs.Graph.{Block, Procedure, Graph}
use Rattle.sq_graph.specs.Blocks.{named, HasBlock, HasProcedure, block_term, term_of, all_items, items_of_bodies}
use Rattle.sq_graph.specs.Bypasses.{first_name, kept, passed}
use Rattle.sq_graph.specs.Canonical.{joined, canonical_of}
use Rattle.sq_graph.specs.Leaders.{is_fall, is_bare, FallsIntoLeaders}
use Rattle.sq_graph.specs.Operations.{with_blocks, without_block}
use Rattle.sq_graph.specs.Renames.{retargeted_items, retargeted_term, retargeted_block, retargeted_procedure, retargeted_words, retargeted, swapped}
use Rattle.sq_graph.specs.Rules.{IsGraph, last_goes_on}
use Rattle.sq_graph.specs.Uses.{items_uses, term_uses, terms_uses, code_word_uses, uses}
use Rattle.sq_graph.proofs.Bypassing.{retargeted_twice, falls_on, bare_falls, bare_items, passed-other, passed-bare}
use Rattle.sq_graph.proofs.CanonicalLaws.{canonical_is_joined}
use Rattle.sq_graph.proofs.Changes.{items_of_blocks-kept}
use Rattle.sq_graph.proofs.Held.{same_graph}
use Rattle.sq_graph.proofs.JoinedAt.{falls_to_next}
use Rattle.sq_graph.proofs.Kept.{kept-other, absent_behind}
use Rattle.sq_graph.proofs.Located.{IsAt, located}
use Rattle.sq_graph.proofs.OperationRules.{without_block_rules}
use Rattle.sq_graph.proofs.RulesByBlock.{ItemStands, BlockStands, BodyStands, by_block}
use Rattle.sq_graph.proofs.SlotReads.{block_at}
use Rattle.sq_graph.proofs.SplitRules.{flat_map-at, flat_map-changed}
use Rattle.sq_lookup.specs.Counts.{times_named, AreUses}
use Rattle.sq_lookup.specs.declared.counts.Uses.{Uses}
use Rattle.sq_lookup.proofs.Counting.{uses_keep}
use Rattle.sq_lookup.proofs.JoiningBefore.{fall_is}
use Rattle.sq_chain.specs.Bare.{IsBareAt, AreSolidBut, AreLed}
use Rattle.sq_chain.specs.Passing.{IsPassed}
use Rattle.sq_chain.proofs.PassedOn.{names_go, next_apart, passed_bare, passed_led, passed_used}

-- NAMES THAT STAY

-- a name that isn't among these is another than each
unnamed : (us : List ℕ) (n : ℕ) → is_among us n ≡ false → All (λ k. k ≢ n) us
unnamed [] n none = All-nil (λ k. k ≢ n)
unnamed (u ∷ us) n none =
    let parts = or_parts (u == n) (is_among us n) none in
    All-cons (λ k. k ≢ n) u us (eqb-false u n parts.0) (unnamed us n parts.1)

module _ (f : ℕ → ℕ) (C : ℕ → Type 0) where
  abbrev N : ℕ → Type 0
  N k = f k ≡ k

  items_stay : (is : List Item) → All (ItemStands N C) is → retargeted_items f is ≡ is
  items_stay [] all = refl
  items_stay (Op insn ∷ is) all = ap (λ js. Op insn ∷ js) (items_stay is (All-tail (ItemStands N C) (Op insn) is all))
  items_stay (Hi rd to ∷ is) all =
      let own = All-head (ItemStands N C) (Hi rd to) is all in
      ap (λ n. Hi rd n ∷ retargeted_items f is) (All-head N to [] own.names) ∙ ap (λ js. Hi rd to ∷ js) (items_stay is (All-tail (ItemStands N C) (Hi rd to) is all))
  items_stay (Lo rd rs to ∷ is) all =
      let own = All-head (ItemStands N C) (Lo rd rs to) is all in
      ap (λ n. Lo rd rs n ∷ retargeted_items f is) (All-head N to [] own.names) ∙ ap (λ js. Lo rd rs to ∷ js) (items_stay is (All-tail (ItemStands N C) (Lo rd rs to) is all))
  items_stay (Out p ∷ is) all = ap (λ js. Out p ∷ js) (items_stay is (All-tail (ItemStands N C) (Out p) is all))

  term_stays : (t : Term) → All N (term_uses t) → retargeted_term f t ≡ t
  term_stays Fall all = refl
  term_stays (Jump to) all = ap Jump (All-head N to [] all)
  term_stays (Branch c x y to) all = ap (λ n. Branch c x y n) (All-head N to [] all)
  term_stays (Call link to) all = ap (λ n. Call link n) (All-head N to [] all)
  term_stays (PartJump link part to) all = ap (λ n. PartJump link part n) (All-head N to [] all)
  term_stays (Indirect link at offset) all = refl
  term_stays (Stop word) all = refl

  blocks_stay : (bs : List Block) → All (BlockStands N C) bs → map (retargeted_block f) bs ≡ bs
  blocks_stay [] all = refl
  blocks_stay (b ∷ bs) all =
      let own = All-head (BlockStands N C) b bs all in
      ap (λ is. record { name = b.name; items = is; term = retargeted_term f b.term } ∷ map (retargeted_block f) bs) (items_stay b.items own.items)
      ∙ ap (λ t. record b { term = t } ∷ map (retargeted_block f) bs) (term_stays b.term own.names)
      ∙ ap (λ cs. b ∷ cs) (blocks_stay bs (All-tail (BlockStands N C) b bs all))

  words_stay : (ws : List CodeRef) → All N (code_word_uses ws) → retargeted_words f ws ≡ ws
  words_stay [] all = refl
  words_stay (w ∷ ws) all =
      ap (λ n. record w { block = n } ∷ retargeted_words f ws) (All-head N w.block (code_word_uses ws) all)
      ∙ ap (λ us. w ∷ us) (words_stay ws (All-tail N w.block (code_word_uses ws) all))

  procedures_stay : (ps : List Procedure) → All (BodyStands N C) ps → map (retargeted_procedure f) ps ≡ ps
  procedures_stay [] all = refl
  procedures_stay (p ∷ ps) all =
      let own = All-head (BodyStands N C) p ps all in
      ap (λ is. record p { body = is } ∷ map (retargeted_procedure f) ps) (items_stay p.body own.items)
      ∙ ap (λ qs. p ∷ qs) (procedures_stay ps (All-tail (BodyStands N C) p ps all))

-- where each name that is used stays, so does the graph
graph_stays : (f : ℕ → ℕ) (g : Graph) → IsGraph g → All (λ k. f k ≡ k) (uses g) → retargeted f g ≡ g
graph_stays f g rules used =
    let C = HasProcedure g in
    let by = by_block (λ k. f k ≡ k) C g rules used rules.called_all in
    same_graph (retargeted f g) g (blocks_stay f C g.blocks by.blocks) by.entry (words_stay f C g.code_words by.words) (procedures_stay f C g.procedures by.bodies)

-- ONE BLOCK ALONE

module _ (n : ℕ) where
  abbrev without : List Block → List Block
  without bs = with_blocks (λ _. []) bs n

  behind_here : (b : Block) (bs : List Block) → (b.name == n) ≡ true → HasDistinctKeys (named (b ∷ bs)) → value_of (named bs) n ≡ None
  behind_here b bs here distinct = subst (λ k. value_of (named bs) k ≡ None) (eqb-true b.name n here) (absent_behind (b.name, b) (named bs) distinct)

  pub gone : (bs : List Block) → HasDistinctKeys (named bs) → value_of (named (with_blocks (λ _. []) bs n)) n ≡ None
  gone [] distinct = refl
  gone (b ∷ bs) distinct =
      elim (cases_Bool (b.name == n)) [
        | inl here ↦ rw here (behind_here b bs here distinct)
        | inr apart ↦ rw apart (rw apart (gone bs (distinct_back ((b.name, b) ∷ []) (named bs) distinct)))
      ]

  kept_without : (bs : List Block) → ((b : Block) → value_of (named bs) n ≡ Some b → is_bare b ≡ true) → kept (with_blocks (λ _. []) bs n) ≡ kept bs
  kept_without [] bare = refl
  kept_without (b ∷ bs) bare =
      elim (cases_Bool (b.name == n)) [
        | inl here ↦ let own : is_bare b ≡ true = bare b (rw here refl) in rw (here, own) refl
        | inr apart ↦ rw apart (ap (λ cs. if not (is_bare b) then b ∷ cs else cs) (kept_without bs (λ c there. bare c (rw apart there))))
      ]

  -- another name goes where it went
  passed_without : (bs : List Block) → HasDistinctKeys (named bs) → ((b : Block) → value_of (named bs) n ≡ Some b → is_bare b ≡ true) → last_goes_on bs ≡ false → (k : ℕ) → k ≢ n → passed bs k ≡ passed (with_blocks (λ _. []) bs n) k
  passed_without [] distinct bare ends k other = refl
  passed_without (b ∷ []) distinct bare ends k other =
      elim (cases_Bool (b.name == n)) [
        | inl here ↦ let own : is_bare b ≡ true = bare b (rw here refl) in absurd (cc (falls_on b.term (bare_falls b own), ends))
        | inr apart ↦ rw apart refl
      ]
  passed_without (b ∷ c ∷ rest) distinct bare ends k other =
      elim (cases_Bool (b.name == n)) [
        | inl here ↦ rw here (passed-other b (c ∷ rest) k (ne_eqb b.name k (λ same. other (sym same ∙ eqb-true b.name n here))))
        | inr apart ↦
            let distinct_rest = distinct_back ((b.name, b) ∷ []) (named (c ∷ rest)) distinct in
            let rest_bare : (d : Block) → value_of (named (c ∷ rest)) n ≡ Some d → is_bare d ≡ true = λ d there. bare d (rw apart there) in
            let before = passed_without (c ∷ rest) distinct_rest rest_bare ends in
            let later = with_blocks (λ _. []) (c ∷ rest) n in
            rw apart
            (elim (cases_Bool (b.name == k)) [
              | inr away ↦ passed-other b (c ∷ rest) k away ∙ before k other ∙ sym (passed-other b later k away)
              | inl own ↦
                  elim (cases_Bool (is_bare b)) [
                    | inr solid ↦ solid_goes b (c ∷ rest) k solid ∙ before k other ∙ sym (solid_goes b later k solid)
                    | inl empty ↦ bare_goes b (c ∷ rest) k empty own ∙ first_goes c rest distinct_rest rest_bare ends k before ∙ sym (bare_goes b later k empty own)
                  ]
            ])
      ]
    where
      solid_goes : (b : Block) (bs : List Block) (k : ℕ) → is_bare b ≡ false → passed (b ∷ bs) k ≡ passed bs k
      solid_goes b bs k solid = rw solid refl

      bare_goes : (b : Block) (bs : List Block) (k : ℕ) → is_bare b ≡ true → (b.name == k) ≡ true → passed (b ∷ bs) k ≡ passed bs (first_name bs k)
      bare_goes b bs k empty own = rw (empty, eq-eqb k b.name (sym (eqb-true b.name k own))) refl

      first_goes : (c : Block) (rest : List Block) → HasDistinctKeys (named (c ∷ rest)) → ((d : Block) → value_of (named (c ∷ rest)) n ≡ Some d → is_bare d ≡ true) → last_goes_on (c ∷ rest) ≡ false → (k : ℕ) → ((m : ℕ) → m ≢ n → passed (c ∷ rest) m ≡ passed (with_blocks (λ _. []) (c ∷ rest) n) m)
          → passed (c ∷ rest) c.name ≡ passed (with_blocks (λ _. []) (c ∷ rest) n) (first_name (with_blocks (λ _. []) (c ∷ rest) n) k)
      first_goes c [] distinct bare ends k before =
          elim (cases_Bool (c.name == n)) [
            | inl here ↦ let own : is_bare c ≡ true = bare c (rw here refl) in absurd (cc (falls_on c.term (bare_falls c own), ends))
            | inr apart ↦ rw apart refl
          ]
      first_goes c (d ∷ more) distinct bare ends k before =
          elim (cases_Bool (c.name == n)) [
            | inl here ↦ let own : is_bare c ≡ true = bare c (rw here refl) in rw here (passed-bare c d more own)
            | inr apart ↦ let goes = before c.name (eqb-false c.name n apart) in rw apart (rw apart at goes)
          ]

  -- none but some is empty with Fall, and this one goes or isn't
  solid_still : (may : ℕ → Bool) (bs : List Block) → HasDistinctKeys (named bs) → ((b : Block) → value_of (named bs) n ≡ Some b → is_bare b ≡ false) → All (λ b. (not (n == b.name || may b.name) && is_bare b) ≡ false) bs → All (λ b. (not (may b.name) && is_bare b) ≡ false) bs
  solid_still may [] distinct solid but = All-nil (λ b. (not (may b.name) && is_bare b) ≡ false)
  solid_still may (b ∷ bs) distinct solid but =
      let P : Block → Type 0 = λ c. (not (may c.name) && is_bare c) ≡ false in
      let Q : Block → Type 0 = λ c. (not (n == c.name || may c.name) && is_bare c) ≡ false in
      let own = All-head Q b bs but in
      let later = All-tail Q b bs but in
      let distinct_rest = distinct_back ((b.name, b) ∷ []) (named bs) distinct in
      elim (cases_Bool (b.name == n)) [
        | inl here ↦
            let none = behind_here b bs here distinct in
            All-cons P b bs (ap (λ t. not (may b.name) && t) (solid b (rw here refl)) ∙ neither (not (may b.name)))
            (solid_still may bs distinct_rest (λ c there. absurd (cc (none, there))) later)
        | inr apart ↦
            let away : (n == b.name) ≡ false = ne_eqb n b.name (λ same. eqb-false b.name n apart (sym same)) in
            All-cons P b bs (rw away at own) (solid_still may bs distinct_rest (λ c there. solid c (rw apart there)) later)
      ]
    where
      neither : (a : Bool) → (a && false) ≡ false
      neither true = refl
      neither false = refl

  solid_without : (may : ℕ → Bool) (bs : List Block) → HasDistinctKeys (named bs) → All (λ b. (not (n == b.name || may b.name) && is_bare b) ≡ false) bs → All (λ b. (not (may b.name) && is_bare b) ≡ false) (with_blocks (λ _. []) bs n)
  solid_without may [] distinct but = All-nil (λ b. (not (may b.name) && is_bare b) ≡ false)
  solid_without may (b ∷ bs) distinct but =
      let P : Block → Type 0 = λ c. (not (may c.name) && is_bare c) ≡ false in
      let Q : Block → Type 0 = λ c. (not (n == c.name || may c.name) && is_bare c) ≡ false in
      let own = All-head Q b bs but in
      let later = All-tail Q b bs but in
      let distinct_rest = distinct_back ((b.name, b) ∷ []) (named bs) distinct in
      elim (cases_Bool (b.name == n)) [
        | inl here ↦
            let none = behind_here b bs here distinct in
            rw here (solid_still may bs distinct_rest (λ c there. absurd (cc (none, there))) later)
        | inr apart ↦
            let away : (n == b.name) ≡ false = ne_eqb n b.name (λ same. eqb-false b.name n apart (sym same)) in
            rw apart (All-cons P b (with_blocks (λ _. []) bs n) (rw away at own) (solid_without may bs distinct_rest later))
      ]

  -- what fell into it falls into the next one
  falls_over : (leads : ℕ → Bool) (b next : Block) (bs : List Block) → next.term ≡ Fall → FallsIntoLeaders leads (b ∷ next ∷ bs) → FallsIntoLeaders leads (b ∷ bs)
  falls_over leads b next [] fall led = tt
  falls_over leads b next (c ∷ bs) fall led = (λ _. led.1.0 (ap is_fall fall), led.1.1)

  falls_without : (leads : ℕ → Bool) (bs : List Block) → block_term (value_of (named bs) n) ≡ Some Fall → FallsIntoLeaders leads bs → FallsIntoLeaders leads (with_blocks (λ _. []) bs n)
  falls_without leads [] fall led = absurd (cc)
  falls_without leads (b ∷ []) fall led = elim (cases_Bool (b.name == n)) [ inl here ↦ rw here tt | inr apart ↦ rw apart tt ]
  falls_without leads (b ∷ next ∷ bs) fall led =
      elim (cases_Bool (b.name == n)) [
        | inl here ↦ rw here led.1
        | inr apart ↦
            let there : block_term (value_of (named (next ∷ bs)) n) ≡ Some Fall = rw apart at fall in
            let later = falls_without leads (next ∷ bs) there led.1 in
            rw apart
            (elim (cases_Bool (next.name == n)) [
              | inl here ↦
                  let some : Some next.term ≡ Some Fall = rw here at there in
                  rw here (falls_over leads b next bs (cc) led)
              | inr other ↦ rw other (led.0, (rw other at later))
            ])
      ]

module _ (g : Graph) (n : ℕ) (rules : IsGraph g) (bare : IsBareAt g n) where
  pub bare_there : HasBlock g n
  bare_there = ap is_some bare.there

  pub bare_term : term_of g n ≡ Some Fall
  bare_term = ap block_term bare.there ∙ ap Some (fall_is bare.block.term (bare_falls bare.block bare.bare))

  at : IsAt g.blocks n
  at = located g.blocks n bare_there

  at_is : at.block ≡ bare.block
  at_is = let both : Some at.block ≡ Some bare.block = sym (block_at g.blocks n at) ∙ bare.there in cc

  terms_without : terms_uses (without_block g n).blocks ≡ terms_uses g.blocks
  terms_without =
      flat_map-changed (λ b. term_uses b.term) (λ _. []) g.blocks n at
      ∙ ap (λ t. terms_uses at.front ++ (term_uses t ++ terms_uses at.back)) (sym (ap (λ b. b.term) at_is ∙ fall_is bare.block.term (bare_falls bare.block bare.bare)))
      ∙ sym (flat_map-at (λ b. term_uses b.term) g.blocks n at)

  items_without : all_items (without_block g n) ≡ all_items g
  items_without =
      ap (λ is. is ++ items_of_bodies g.procedures)
      (items_of_blocks-kept (λ _. []) g.blocks n at (sym (ap (λ b. b.items) at_is ∙ bare_items bare.block bare.bare)))

  pub uses_without : uses (without_block g n) ≡ uses g
  uses_without =
      ap (λ us. g.entry ∷ (code_word_uses g.code_words ++ (us ++ items_uses (all_items (without_block g n))))) terms_without
      ∙ ap (λ is. g.entry ∷ (code_word_uses g.code_words ++ (terms_uses g.blocks ++ items_uses is))) items_without

  pub are_without : (they : Uses) → AreUses g they → AreUses (without_block g n) they
  are_without they are =
      uses_keep g (without_block g n) they
      (λ k. ap (λ is. times_named (items_uses is) k) items_without)
      (λ k. refl)
      (λ k. ap (λ us. times_named us k) terms_without)
      are

  module _ (unused : is_among (uses g) n ≡ false) where
    others : All (λ k. k ≢ n) (uses g)
    others = unnamed (uses g) n unused

    pub bare_rules : IsGraph (without_block g n)
    bare_rules =
        let pair = falls_to_next g n rules bare_term in
        without_block_rules g n rules bare_there others (ap is_some pair.slot)

    pub bare_canonical : canonical_of (without_block g n) ≡ canonical_of g
    bare_canonical =
        let pair = falls_to_next g n rules bare_term in
        let next = pair.next.name in
        let to = λ (k : ℕ). swapped n pair.next.name k in
        let g' : Graph = without_block g n in
        let is_it : (b : Block) → value_of (named g.blocks) n ≡ Some b → is_bare b ≡ true = λ b there.
        let both : Some b ≡ Some bare.block = sym there ∙ bare.there in
        let same : b ≡ bare.block = cc in
        ap is_bare same ∙ bare.bare in
        let stays : retargeted (λ k. swapped n pair.next.name k) g ≡ g = graph_stays to g rules (All-weaker (λ k. k ≢ n) (λ k. swapped n pair.next.name k ≡ k) (λ k apart. rw (ne_eqb k n apart) refl) (uses g) others) in
        let goes : passed g.blocks ≡ (λ (k : ℕ). passed (without_block g n).blocks (swapped n pair.next.name k)) = λ i k. name_goes k i in
        let kept_stays : map (retargeted_block (λ k. swapped n pair.next.name k)) (kept g.blocks) ≡ kept g.blocks = sym (kept-other to g.blocks) ∙ ap (λ (h : Graph). kept h.blocks) stays in
        canonical_is_joined g' bare_rules
        ∙ ap joined
        (sym
        (ap (λ f. retargeted f (record g { blocks = kept g.blocks })) goes
        ∙ sym (retargeted_twice to (passed g'.blocks) (record g { blocks = kept g.blocks }))
        ∙ ap (retargeted (passed g'.blocks))
        (same_graph (retargeted to (record g { blocks = kept g.blocks })) (record g { blocks = kept g'.blocks })
        (kept_stays ∙ sym (kept_without n g.blocks is_it)) (ap (λ (h : Graph). h.entry) stays) (ap (λ (h : Graph). h.code_words) stays) (ap (λ (h : Graph). h.procedures) stays))))
        ∙ sym (canonical_is_joined g rules)
      where
        name_goes : (k : ℕ) → passed g.blocks k ≡ passed (without_block g n).blocks (swapped n (falls_to_next g n rules bare_term).next.name k)
        name_goes k =
            let pair = falls_to_next g n rules bare_term in
            let next = pair.next.name in
            let is_it : (b : Block) → value_of (named g.blocks) n ≡ Some b → is_bare b ≡ true = λ b there.
            let both : Some b ≡ Some bare.block = sym there ∙ bare.there in
            let same : b ≡ bare.block = cc in
            ap is_bare same ∙ bare.bare in
            let before = passed_without n g.blocks rules.distinct is_it rules.ends in
            elim (cases_Bool (k == n)) [
              | inr apart ↦ rw apart (before k (eqb-false k n apart))
              | inl here ↦
                  rw here
                  (ap (passed g.blocks) (eqb-true k n here) ∙ names_go g n next rules bare pair.slot ∙ before next (next_apart g n next rules bare pair.slot))
            ]

  pub bare_solid : (may : ℕ → Bool) → AreSolidBut (λ m. n == m || may m) g → AreSolidBut may (without_block g n)
  bare_solid may but = solid_without n may g.blocks rules.distinct but

  pub bare_led : (leads : ℕ → Bool) → FallsIntoLeaders leads g.blocks → FallsIntoLeaders leads (without_block g n).blocks
  bare_led leads led = falls_without n leads g.blocks bare_term led

-- a block that isn't there, or isn't empty with Fall
pub solid_but : (g : Graph) (n : ℕ) → IsGraph g → ¬ IsBareAt g n → (may : ℕ → Bool) → AreSolidBut (λ m. n == m || may m) g → AreSolidBut may g
solid_but g n rules solid may but = solid_still n may g.blocks rules.distinct (λ b there. by_block b there (cases_Bool (is_bare b))) but
  where
    by_block : (b : Block) → value_of (named g.blocks) n ≡ Some b → (is_bare b ≡ true) ⊎ (is_bare b ≡ false) → is_bare b ≡ false
    by_block b there (inl empty) = absurd (solid (record { block = b; there = there; bare = empty }))
    by_block b there (inr full) = full

-- what leads under another name than the one that went
led_but : (leads others : ℕ → Bool) (n : ℕ) (bs : List Block) → value_of (named bs) n ≡ None → ((m : ℕ) → m ≢ n → leads m ≡ true → others m ≡ true) → FallsIntoLeaders leads bs → FallsIntoLeaders others bs
led_but leads others n [] none more led = tt
led_but leads others n (b ∷ []) none more led = tt
led_but leads others n (b ∷ c ∷ rest) none more led =
    elim (cases_Bool (b.name == n)) [
      | inl here ↦ absurd (cc (rw here at none))
      | inr apart ↦
          let later : value_of (named (c ∷ rest)) n ≡ None = rw apart at none in
          elim (cases_Bool (c.name == n)) [
            | inl here ↦ absurd (cc (rw here at later))
            | inr away ↦ (λ fall. more c.name (eqb-false c.name n away) (led.0 fall), led_but leads others n (c ∷ rest) later more led.1)
          ]
    ]

-- the Branches to it go to the next one, and it goes
module _ (g mid : Graph) (n : ℕ) (passed_to : IsPassed n g mid) (rules : IsGraph g) (mid_rules : IsGraph mid) (bare : IsBareAt g n) where
  pub taken_led : (leads : ℕ → Bool) → AreLed leads g → AreLed leads (without_block mid n)
  taken_led leads led =
      let mid_bare = passed_bare n g mid passed_to bare in
      let led_mid = passed_led n g mid passed_to (λ m. leads m || is_among (uses g) m) led in
      let led_without = bare_led mid n mid_rules mid_bare (λ m. leads m || is_among (uses g) m) led_mid in
      subst (λ us. FallsIntoLeaders (λ m. leads m || is_among us m) (without_block mid n).blocks) (sym (uses_without mid n mid_rules mid_bare))
      (led_but (λ m. leads m || is_among (uses g) m) (λ m. leads m || is_among (uses mid) m) n (without_block mid n).blocks (gone n mid.blocks mid_rules.distinct)
      (λ m other lead. more (leads m) (is_among (uses g) m) (is_among (uses mid) m) (λ used. passed_used n g mid passed_to m other used) lead) led_without)
    where
      more : (a u v : Bool) → (u ≡ true → v ≡ true) → (a || u) ≡ true → (a || v) ≡ true
      more true u v goes lead = refl
      more false u v goes lead = goes lead
