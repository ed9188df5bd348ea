-- A Branch that is widened: what the graph uses then, where its blocks stand, and what they fall into.
use Rattle.std.proofs.Common.{◌≡◌, ◌≢◌, ℕ, ◌+◌, ◌*◌, ◌≤◌, ◌<◌, ◌^◌, ◌==◌, nat_eq, nat_lt, Bool, true, false, ◌&&◌, ◌||◌, not, if◌then◌else◌, List, [], ◌∷◌, ◌++◌, length, sum_by, get_or, None, Some, inl, inr, refl, sym, ap, ◌∙◌, subst, arith}
use Rattle.std.specs.Prelude.{option_map}
use Rattle.std.specs.List.{All}
use Rattle.std.specs.Map.{update}
use Rattle.std.proofs.lemmas.Bool.{cases_Bool, ne_eqb, lt-ltb, le-ltb, and_right, or_cases, or_left, or_right}
use Rattle.std.proofs.lemmas.List.{append-nil}
use Rattle.std.proofs.lemmas.List.Elements.{All-cons, All-head, All-tail}
use Rattle.std.proofs.lemmas.List.Sums.{sum_by-cons}
use Rattle.sq_arena.specs.Entries.{value_of, first_key, next_key}
use Rattle.sq_isa.specs.Branches.{inverse_of}
use Rattle.sq_isa.specs.Registers.{is_among}
use Rattle.sq_isa.specs.declared.instructions.Cond.{Cond}
use Rattle.sq_graph.specs.declared.item.Term.TheVariants.{Jump, Branch}
use Rattle.sq_graph.specs.Graph.{Block, Graph}
use Rattle.sq_graph.specs.Blocks.{named, block_term, term_of, next_of, items_of, block_items, items_of_blocks, items_of_bodies, all_items}
use Rattle.sq_graph.specs.Leaders.{is_fall, has_no_items, is_bare, FallsIntoLeaders}
use Rattle.sq_graph.specs.Operations.{IsNew, with_blocks, changed}
use Rattle.sq_graph.specs.Uses.{term_uses, terms_uses, items_uses, code_word_uses, uses}
use Rattle.sq_graph.specs.Words.{term_words, block_words, words_of}
use Rattle.sq_graph.proofs.CanonicalLaws.{falls_agree}
use Rattle.sq_graph.proofs.Changes.{items_of_blocks-kept}
use Rattle.sq_graph.proofs.Located.{IsAt, located}
use Rattle.sq_graph.proofs.SlotReads.{block_at}
use Rattle.sq_graph.proofs.SplitRules.{flat_map-at, flat_map-changed}
use Rattle.sq_layout.specs.Weights.{address_by}
use Rattle.sq_layout.proofs.Shrinking.{some_is}
use Rattle.sq_lookup.specs.Counts.{count_at, times_named, AreUses, IsCounted}
use Rattle.sq_lookup.specs.Lowering.{nowhere}
use Rattle.sq_lookup.specs.Names.{held_uses}
use Rattle.sq_lookup.specs.declared.counts.Uses.{Uses}
use Rattle.sq_lookup.proofs.Counting.{times-append, some_times, times_some, among_uses}
use Rattle.sq_lookup.proofs.Targets.{has_term}
use Rattle.sq_chain.specs.Bare.{AreSolidBut, AreLed}
use Rattle.sq_chain.specs.Least.{stands_at}
use Rattle.sq_chain.specs.Moves.{fallen_term, fallen_blocks}
use Rattle.sq_chain.specs.Places.{address_behind, placed_at}
use Rattle.sq_chain.specs.Shifts.{raised_to}
use Rattle.sq_chain.specs.Surveys.{AreMarked, IsPlaced, NoneFalls}
use Rattle.sq_chain.specs.Widening.{jumped_over, over_jump}
use Rattle.sq_chain.specs.declared.survey.Places.{Places}
use Rattle.sq_chain.proofs.Marked.{marked_wider}
use Rattle.sq_chain.proofs.Over.{over_first}
use Rattle.sq_chain.proofs.Placed.{most}
use Rattle.sq_chain.proofs.Shortness.{stands_there}
use Rattle.sq_chain.proofs.Swelling.{from_at}
use Rattle.sq_chain.proofs.Tabled.{behind_is}

-- a word more moves what stands behind it
raised_behind : (bs : List Block) (start at k : ℕ) → start < at → address_by block_words bs (at + 4) k ≡ option_map (raised_to start) (address_by block_words bs at k)
raised_behind [] start at k behind = refl
raised_behind (x ∷ bs) start at k behind =
    elim (cases_Bool (x.name == k)) [
      | inl here ↦ let less = lt-ltb start at behind in rw here (rw less refl)
      | inr apart ↦
          let same : at + 4 + 4 * block_words x ≡ at + 4 * block_words x + 4 = omega arith in
          rw apart (ap (λ n. address_by block_words bs n k) same ∙ raised_behind bs start (at + 4 * block_words x) k (omega (arith, behind)))
    ]

-- a block's words end no further on than all of them
block_fits : (bs : List Block) (at m x : ℕ) (c : Block) → value_of (named bs) m ≡ Some c → address_by block_words bs at m ≡ Some x → x + 4 * block_words c ≤ at + 4 * sum_by block_words bs
block_fits [] at m x c found there = absurd (cc)
block_fits (b ∷ bs) at m x c found there =
    elim (cases_Bool (b.name == m)) [
      | inl here ↦
          let some : Some b ≡ Some c = rw here at found in
          let same : b ≡ c = cc in
          let is = some_is at x (rw here at there) in
          omega (arith, is, ap block_words same, sum_by-cons block_words b bs)
      | inr apart ↦
          let later = block_fits bs (at + 4 * block_words b) m x c (rw apart at found) (rw apart at there) in
          omega (arith, later, sum_by-cons block_words b bs)
    ]

-- ITS BLOCKS

module _ (new next m : ℕ) (cond : Cond) (a b to : ℕ) where
  abbrev turned : Block → Block
  turned x = record x { term = Branch (inverse_of cond) a b next }

  abbrev lone : Block
  lone = record { name = new; items = []; term = Jump to }

  abbrev wider : List Block → List Block
  wider bs = with_blocks (over_jump new next) bs m

  abbrev Turns : List Block → Type 0
  Turns bs = block_term (value_of (named bs) m) ≡ Some (Branch cond a b to)

  term_here : (x : Block) (rest : List Block) → (x.name == m) ≡ true → Turns (x ∷ rest) → x.term ≡ Branch cond a b to
  term_here x rest here is = let some : Some x.term ≡ Some (Branch cond a b to) = rw here at is in cc

  over_here : (x : Block) (rest : List Block) → (x.name == m) ≡ true → Turns (x ∷ rest) → wider (x ∷ rest) ≡ turned x ∷ lone ∷ rest
  over_here x rest here is = rw here (ap (λ t. jumped_over new next x t ++ rest) (term_here x rest here is))

  -- a word more
  wider_words : (bs : List Block) → Turns bs → sum_by block_words (wider bs) ≡ sum_by block_words bs + 1
  wider_words [] is = absurd (cc)
  wider_words (x ∷ bs) is =
      elim (cases_Bool (x.name == m)) [
        | inl here ↦
            omega (
              arith,
              ap (sum_by block_words) (over_here x bs here is),
              ap term_words (term_here x bs here is),
              sum_by-cons block_words x bs,
              sum_by-cons block_words (turned x) (lone ∷ bs),
              sum_by-cons block_words lone bs,
            )
        | inr apart ↦
            let later = wider_words bs (rw apart at is) in
            rw apart (omega (arith, later, sum_by-cons block_words x bs, sum_by-cons block_words x (wider bs)))
      ]

  -- where they stand
  wider_addresses : (bs : List Block) (at start k : ℕ) (c : Block) → Turns bs → value_of (named bs) new ≡ None → value_of (named bs) m ≡ Some c → address_by block_words bs at m ≡ Some start → address_by block_words (wider bs) at k ≡ update nat_eq (λ j. option_map (raised_to start) (address_by block_words bs at j)) new (Some (start + 4 * block_words c)) k
  wider_addresses [] at start k c is fresh found there = absurd (cc)
  wider_addresses (x ∷ bs) at start k c is fresh found there =
      elim (cases_Bool (x.name == k)) [
        | inl mine ↦
            let other : (new == k) ≡ false = ne_eqb new k (λ same. absent_here same mine) in
            elim (cases_Bool (x.name == m)) [
              | inl here ↦
                  let at_is = some_is at start (rw here at there) in
                  let not_less : nat_lt start at ≡ false = le-ltb start at (omega (arith, at_is)) in
                  ap (λ cs. address_by block_words cs at k) (over_here x bs here is) ∙ rw (mine, other) (rw not_less refl)
              | inr apart ↦
                  let later = from_at block_words bs (at + 4 * block_words x) m start (rw apart at there) in
                  let not_less : nat_lt start at ≡ false = le-ltb start at (omega (arith, later)) in
                  rw (apart, mine, other) (rw not_less refl)
            ]
        | inr away ↦
            elim (cases_Bool (x.name == m)) [
              | inl here ↦
                  let at_is = some_is at start (rw here at there) in
                  let some : Some x ≡ Some c = rw here at found in
                  let c_is : x ≡ c = cc in
                  let word = ap term_words (term_here x bs here is) in
                  let size : at + 4 * block_words (turned x) ≡ start + 4 * block_words c = omega (arith, at_is, word, ap block_words c_is) in
                  ap (λ cs. address_by block_words cs at k) (over_here x bs here is)
                  ∙ elim (cases_Bool (new == k)) [
                    | inl added ↦ rw (away, added) (ap Some size)
                    | inr old ↦
                        let same : at + 4 * block_words (turned x) + 4 * block_words lone ≡ at + 4 * block_words x + 4 = omega (arith, word) in
                        rw (away, old)
                        (ap (λ n. address_by block_words bs n k) same ∙ raised_behind bs start (at + 4 * block_words x) k (omega (arith, at_is, word)))
                  ]
              | inr apart ↦
                  let none : value_of (named bs) new ≡ None = absent_behind in
                  rw (apart, away) (wider_addresses bs (at + 4 * block_words x) start k c (rw apart at is) none (rw apart at found) (rw apart at there))
            ]
      ]
    where
      absent_here : new ≡ k → (x.name == k) ≡ true → ⊥
      absent_here same mine = let here : (x.name == new) ≡ true = ap (λ n. x.name == n) same ∙ mine in absurd (cc (rw here at fresh))

      absent_behind : value_of (named bs) new ≡ None
      absent_behind = elim (cases_Bool (x.name == new)) [ inl here ↦ absurd (cc (rw here at fresh)) | inr apart ↦ rw apart at fresh ]

  -- no block comes to be empty with Fall
  solid_wider : (may : ℕ → Bool) (bs : List Block) → Turns bs → All (λ x. (not (may x.name) && is_bare x) ≡ false) bs → All (λ x. (not (may x.name) && is_bare x) ≡ false) (wider bs)
  solid_wider may [] is solid = absurd (cc)
  solid_wider may (x ∷ bs) is solid =
      let P : Block → Type 0 = λ y. (not (may y.name) && is_bare y) ≡ false in
      elim (cases_Bool (x.name == m)) [
        | inl here ↦
            let no_fall : is_bare (turned x) ≡ false = and_right (has_no_items x.items) false refl in
            subst (All P) (sym (over_here x bs here is))
            (All-cons P (turned x) (lone ∷ bs) (and_right (not (may x.name)) (is_bare (turned x)) no_fall)
            (All-cons P lone bs (and_right (not (may new)) false refl) (All-tail P x bs solid)))
        | inr apart ↦ rw apart (All-cons P x (wider bs) (All-head P x bs solid) (solid_wider may bs (rw apart at is) (All-tail P x bs solid)))
      ]

  -- the first of them stays first
  first_wider : (bs : List Block) (k : ℕ) → first_key (named bs) ≡ Some k → first_key (named (wider bs)) ≡ Some k
  first_wider [] k first = first
  first_wider (x ∷ bs) k first =
      elim (cases_Bool (x.name == m)) [
        | inl here ↦ rw here (over_first new next x x.term bs ∙ first)
        | inr apart ↦ rw apart first
      ]

  led_ahead : (leads : ℕ → Bool) (x : Block) (k : ℕ) (bs : List Block) → first_key (named bs) ≡ Some k → (is_fall x.term ≡ true → leads k ≡ true) → FallsIntoLeaders leads bs → FallsIntoLeaders leads (x ∷ bs)
  led_ahead leads x k [] first own led = tt
  led_ahead leads x k (y ∷ bs) first own led =
      let same : y.name ≡ k = cc in
      (λ fall. ap leads same ∙ own fall, led)

  -- what is fallen into stays
  led_wider : (leads : ℕ → Bool) (bs : List Block) → Turns bs → FallsIntoLeaders leads bs → FallsIntoLeaders leads (wider bs)
  led_wider leads [] is led = absurd (cc)
  led_wider leads (x ∷ []) is led =
      elim (cases_Bool (x.name == m)) [
        | inl here ↦ subst (FallsIntoLeaders leads) (sym (over_here x [] here is)) (λ fall. absurd (cc), tt)
        | inr apart ↦ absurd (cc (rw apart at is))
      ]
  led_wider leads (x ∷ y ∷ rest) is led =
      elim (cases_Bool (x.name == m)) [
        | inl here ↦ subst (FallsIntoLeaders leads) (sym (over_here x (y ∷ rest) here is)) (λ fall. absurd (cc), (λ fall. absurd (cc), led.1))
        | inr apart ↦
            rw apart (led_ahead leads x y.name (wider (y ∷ rest)) (first_wider (y ∷ rest) y.name refl) led.0 (led_wider leads (y ∷ rest) (rw apart at is) led.1))
      ]

  falls_ahead : (x : Block) (k : ℕ) (bs : List Block) → first_key (named bs) ≡ Some k → fallen_blocks (x ∷ bs) ≡ record x { term = fallen_term k x.term } ∷ fallen_blocks bs
  falls_ahead x k [] first = absurd (cc)
  falls_ahead x k (y ∷ bs) first =
      let same : y.name ≡ k = cc in
      ap (λ n. record x { term = fallen_term n x.term } ∷ fallen_blocks (y ∷ bs)) same

  -- and no block comes to jump to its next slot
  falls_wider : (bs : List Block) → Turns bs → next_key (named bs) m ≡ Some next → to ≢ next → fallen_blocks bs ≡ bs → fallen_blocks (wider bs) ≡ wider bs
  falls_wider [] is slot other falls = absurd (cc)
  falls_wider (x ∷ []) is slot other falls =
      elim (cases_Bool (x.name == m)) [ inl here ↦ absurd (cc (rw here at slot)) | inr apart ↦ absurd (cc (rw apart at slot)) ]
  falls_wider (x ∷ y ∷ rest) is slot other falls =
      let head : record x { term = fallen_term y.name x.term } ≡ x = cc in
      let tail : fallen_blocks (y ∷ rest) ≡ y ∷ rest = cc in
      elim (cases_Bool (x.name == m)) [
        | inl here ↦
            let first : Some y.name ≡ Some next = rw here at slot in
            let name : y.name ≡ next = cc in
            let jumps : fallen_term y.name (Jump to) ≡ Jump to = rw (ne_eqb to y.name (λ same. other (same ∙ name))) refl in
            ap fallen_blocks (over_here x (y ∷ rest) here is)
            ∙ ap (λ t. turned x ∷ record lone { term = t } ∷ fallen_blocks (y ∷ rest)) jumps
            ∙ ap (λ bs. turned x ∷ lone ∷ bs) tail
            ∙ sym (over_here x (y ∷ rest) here is)
        | inr apart ↦
            let later = falls_wider (y ∷ rest) (rw apart at is) (rw apart at slot) other tail in
            rw apart
            (falls_ahead x y.name (wider (y ∷ rest)) (first_wider (y ∷ rest) y.name refl)
            ∙ ap (λ c. c ∷ fallen_blocks (wider (y ∷ rest))) head
            ∙ ap (λ bs. x ∷ bs) later)
      ]

-- A GRAPH

module _ (g : Graph) (new n next : ℕ) (cond : Cond) (a b to : ℕ) (is : term_of g n ≡ Some (Branch cond a b to)) where
  abbrev wide : Graph
  wide = changed (over_jump new next) g n

  at : IsAt g.blocks n
  at = located g.blocks n (has_term g n (Branch cond a b to) is)

  at_term : at.block.term ≡ Branch cond a b to
  at_term = let same : Some at.block.term ≡ Some (Branch cond a b to) = sym (ap block_term (block_at g.blocks n at)) ∙ is in cc

  pub wider_solid : (may : ℕ → Bool) → AreSolidBut may g → AreSolidBut may (changed (over_jump new next) g n)
  wider_solid may solid = solid_wider new next n cond a b to may g.blocks is solid

  pub wider_falls : next_of g n ≡ Some next → to ≢ next → NoneFalls g → NoneFalls (changed (over_jump new next) g n)
  wider_falls slot other falls = falls_wider new next n cond a b to g.blocks is slot other falls

  -- one use more
  times_wider : (k : ℕ) → times_named (terms_uses (changed (over_jump new next) g n).blocks) k ≡ (if next == k then 1 else 0) + times_named (terms_uses g.blocks) k
  times_wider k =
      omega (
        arith,
        ap (λ t. times_named (term_uses t) k) at_term,
        ap (λ t. times_named (terms_uses (jumped_over new next at.block t)) k) at_term,
        ap (λ us. times_named us k) (flat_map-at (λ x. term_uses x.term) g.blocks n at),
        ap (λ us. times_named us k) (flat_map-changed (λ x. term_uses x.term) (over_jump new next) g.blocks n at),
        times-append (terms_uses at.front) (term_uses at.block.term ++ terms_uses at.back) k,
        times-append (term_uses at.block.term) (terms_uses at.back) k,
        times-append (terms_uses at.front) (terms_uses (over_jump new next at.block) ++ terms_uses at.back) k,
        times-append (terms_uses (over_jump new next at.block)) (terms_uses at.back) k,
      )

  items_wider : all_items (changed (over_jump new next) g n) ≡ all_items g
  items_wider =
      ap (λ items. items ++ items_of_bodies g.procedures)
      (items_of_blocks-kept (over_jump new next) g.blocks n at
      (ap (λ t. items_of_blocks (jumped_over new next at.block t)) at_term ∙ append-nil at.block.items))

  pub wider_uses : (old more : Uses) → AreUses g old → IsCounted next old more → AreUses (changed (over_jump new next) g n) more
  wider_uses old more are counted = record {
    items = λ k. ap (λ is. count_at is.items k) counted.items ∙ are.items k ∙ ap (λ items. times_named (items_uses items) k) (sym items_wider);
    words = λ k. ap (λ ws. count_at ws.items k) counted.words ∙ are.words k;
    terms = λ k. omega (arith, counted.terms k, are.terms k, times_wider k);
  }

  still_used : (k : ℕ) → is_among (uses g) k ≡ true → is_among (uses (changed (over_jump new next) g n)) k ≡ true
  still_used k used =
      let held : is_among (held_uses (changed (over_jump new next) g n)) k ≡ is_among (held_uses g) k = ap (λ items. is_among (g.entry ∷ (code_word_uses g.code_words ++ items_uses items)) k) items_wider in
      among_uses wide k
      ∙ elim (or_cases (is_among (held_uses g) k) (is_among (terms_uses g.blocks) k) (sym (among_uses g k) ∙ used)) [
        | inl one ↦ or_left (is_among (held_uses wide) k) (is_among (terms_uses wide.blocks) k) (held ∙ one)
        | inr other ↦
            let some = some_times (terms_uses g.blocks) k other in
            or_right (is_among (held_uses wide) k) (is_among (terms_uses wide.blocks) k) (times_some (terms_uses wide.blocks) k (omega (arith, some, times_wider k)))
      ]

  pub wider_led : (leads : ℕ → Bool) → AreLed leads g → AreLed leads (changed (over_jump new next) g n)
  wider_led leads led =
      falls_agree (λ k. leads k || is_among (uses g) k) (λ k. leads k || is_among (uses (changed (over_jump new next) g n)) k) wide.blocks
      (λ k lead.
      elim (or_cases (leads k) (is_among (uses g) k) lead) [
        | inl one ↦ or_left (leads k) (is_among (uses wide) k) one
        | inr other ↦ or_right (leads k) (is_among (uses wide) k) (still_used k other)
      ])
      (led_wider new next n cond a b to (λ k. leads k || is_among (uses g) k) g.blocks is led)

  -- WHERE ITS BLOCKS STAND

  module _ (old : Places) (placed : IsPlaced g old) (start : ℕ) (start_is : start ≡ get_or old.addresses n nowhere) where
    place : address_by block_words g.blocks 0 n ≡ Some (4 * start)
    place =
        let found = stands_there block_words g n (has_term g n (Branch cond a b to) is) in
        let same : 4 * start ≡ stands_at block_words g n = behind_is start (stands_at block_words g n) (ap address_behind start_is ∙ placed.addresses n ∙ found) in
        found ∙ ap Some (sym same)

    size : length (items_of g n) + 1 ≡ block_words at.block
    size = omega (arith, ap (λ o. length (block_items o)) (block_at g.blocks n at), ap term_words at_term)

    pub wider_few : words_of g < 2 ^ 31 → start + (length (items_of g n) + 1) < 2 ^ 31
    wider_few few =
        let fits = block_fits g.blocks 0 n (4 * start) at.block (block_at g.blocks n at) place in
        omega (arith, few, fits, size)

    pub wider_placed : (words : ℕ) (more : Places) → IsNew g new → words ≡ length (items_of g n) + 1
        → ((k : ℕ) → placed_at more.addresses k ≡ update nat_eq (λ j. option_map (raised_to (4 * start)) (placed_at old.addresses j)) new (Some (4 * (start + words))) k)
        → more.words ≡ old.words + 1 → more.branches ≡ old.branches → IsPlaced (changed (over_jump new next) g n) more
    wider_placed words more fresh words_is are counted marks = record {
      addresses = λ k.
          are k
          ∙ ap (λ o. if nat_eq new k then Some (4 * (start + words)) else option_map (raised_to (4 * start)) o) (placed.addresses k)
          ∙ ap (λ s. if nat_eq new k then Some s else option_map (raised_to (4 * start)) (address_by block_words g.blocks 0 k)) (omega (arith, words_is, size))
          ∙ sym (wider_addresses new next n cond a b to g.blocks 0 (4 * start) k at.block is fresh (block_at g.blocks n at) place);
      words = omega (arith, counted, placed.words, wider_words new next n cond a b to g.blocks is);
      branches = subst (AreMarked (changed (over_jump new next) g n)) (sym marks) (marked_wider g new next n old.branches placed.branches);
    }

-- no block stands further on than all words take
pub placed_few : (g : Graph) (places : Places) → IsPlaced g places → words_of g < 2 ^ 31 → (n at : ℕ) → placed_at places.addresses n ≡ Some at → at < 2 ^ 33
placed_few g places placed few n at there = let far = most block_words g.blocks 0 n at (sym (placed.addresses n) ∙ there) in omega (arith, few, far)
