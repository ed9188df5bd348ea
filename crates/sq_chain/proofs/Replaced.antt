-- Where the blocks of a graph stand, and how many words it takes, once a chain has moved, a block falls, goes or is joined.
use Rattle.std.proofs.Common.{◌≡◌, ◌⊎◌, ℕ, ◌+◌, ◌*◌, ◌≤◌, ◌<◌, ◌==◌, true, if◌then◌else◌, List, [], ◌∷◌, length, get_or, sum_by, Option, None, Some, IsSome, is_some, inl, inr, refl, sym, ap, ◌∙◌, subst, arith}
use Rattle.std.specs.Prelude.{option_map, nat_lt}
use Rattle.std.proofs.lemmas.Bool.{cases_Bool, eqb-true, eq-eqb, lt-ltb, le-ltb, ltb-true, ltb-false}
use Rattle.sq_arena.specs.Entries.{HasDistinctKeys, value_of, next_key, previous_key}
use Rattle.sq_isa.specs.Registers.{is_among}
use Rattle.sq_graph.specs.declared.item.Term.{Term}
use Rattle.sq_graph.specs.declared.item.Term.TheVariants.{Fall, Jump}
use Rattle.sq_graph.specs.Graph.{Block, Graph}
use Rattle.sq_graph.specs.Blocks.{named, HasBlock, block_of, block_term, term_of, next_of}
use Rattle.sq_graph.specs.Canonical.{joined_before}
use Rattle.sq_graph.specs.Leaders.{is_fall, is_bare}
use Rattle.sq_graph.specs.Operations.{with_blocks, with_term, without_block, joined_at, joined_with_next}
use Rattle.sq_graph.specs.Places.{IsInReach}
use Rattle.sq_graph.specs.Rules.{IsGraph}
use Rattle.sq_graph.specs.Uses.{uses}
use Rattle.sq_graph.specs.Words.{block_words, words_of}
use Rattle.sq_graph.proofs.Bypassing.{bare_falls, bare_items}
use Rattle.sq_graph.proofs.Kept.{absent_behind, fall_words}
use Rattle.sq_layout.specs.Weights.{address_by}
use Rattle.sq_lookup.specs.Lowering.{nowhere}
use Rattle.sq_lookup.specs.Marks.{is_marked}
use Rattle.sq_chain.specs.Places.{address_behind, placed_at}
use Rattle.sq_lookup.proofs.JoiningBefore.{fall_is, joins, joins_not}
use Rattle.sq_lookup.proofs.Targets.{has_term}
use Rattle.sq_lookup.proofs.Previous.{next_has, next_there, one_before, previous_none, before_next}
use Rattle.sq_chain.specs.Bare.{IsBareAt, IsSpanned}
use Rattle.sq_chain.specs.Moves.{fallen}
use Rattle.sq_chain.specs.Seams.{IsShifted, IsExchanged}
use Rattle.sq_chain.specs.Shifts.{exchanged_to, lowered_to}
use Rattle.sq_chain.specs.Surveys.{AreBelow, AreMarked, IsSurvey, IsPlaced, NoneFalls}
use Rattle.sq_chain.specs.declared.seams.Seams.{Seams}
use Rattle.sq_chain.specs.declared.survey.Places.{Places}
use Rattle.sq_chain.specs.declared.survey.Survey.{Survey}
use Rattle.sq_chain.proofs.Lighter.{falls_fewer}
use Rattle.sq_chain.proofs.Marked.{marked_exchanged, marked_fell, marked_without, marked_joined}
use Rattle.sq_chain.proofs.Resurveyed.{apart_from, first_there, rest_distinct, somewhere, absent, fell_words, fell_addresses, fallen_joined, joined_addresses, joined_words, without_addresses, without_words, IsLeft, fallen_without}
use Rattle.sq_chain.proofs.Shortness.{stands_there}
use Rattle.sq_chain.proofs.Tabled.{behind_is, placed_within}
use Rattle.sq_chain.specs.Least.{stands_at}

-- WHERE AN EXCHANGE PUTS AN ADDRESS

pub exchanged_is : (seams : Seams) (at to : ℕ) → seams.first ≤ seams.second → seams.second ≤ seams.end → IsShifted seams at to → to ≡ exchanged_to seams at
exchanged_is seams at to first second is =
    elim (cases_Bool (nat_lt at seams.first)) [
      | inl one ↦ rw one (is.before (ltb-true at seams.first one))
      | inr past ↦
          let past_first = ltb-false at seams.first past in
          elim (cases_Bool (nat_lt at seams.second)) [
            | inl two ↦ let moves = is.first past_first (ltb-true at seams.second two) in rw past (rw two (omega (arith, moves, second)))
            | inr later ↦
                let past_second = ltb-false at seams.second later in
                elim (cases_Bool (nat_lt at seams.end)) [
                  | inl three ↦ let moves = is.second past_second (ltb-true at seams.end three) in rw past (rw later (rw three (omega (arith, moves, first, past_second))))
                  | inr behind ↦ rw past (rw later (rw behind (is.behind (ltb-false at seams.end behind))))
                ]
          ]
    ]

pub shifted_is : (seams : Seams) (at : ℕ) → seams.first ≤ seams.second → seams.second ≤ seams.end → IsShifted seams at (exchanged_to seams at)
shifted_is seams at first second = record {
  before = λ less. before less;
  first = λ more less. middle more less;
  second = λ more less. last more less;
  behind = λ more. past more;
}
  where
    before : at < seams.first → exchanged_to seams at ≡ at
    before less = rw (lt-ltb at seams.first less) refl

    middle : seams.first ≤ at → at < seams.second → exchanged_to seams at + seams.second ≡ at + seams.end
    middle more less = rw (le-ltb at seams.first more) (rw (lt-ltb at seams.second less) (omega (arith, second)))

    last : seams.second ≤ at → at < seams.end → exchanged_to seams at + seams.second ≡ at + seams.first
    last more less =
        let one = le-ltb at seams.first (omega (arith, more, first)) in
        rw one (rw (le-ltb at seams.second more) (rw (lt-ltb at seams.end less) (omega (arith, more, first))))

    past : seams.end ≤ at → exchanged_to seams at ≡ at
    past more =
        let one = le-ltb at seams.first (omega (arith, more, first, second)) in
        let two = le-ltb at seams.second (omega (arith, more, second)) in
        rw one (rw two (rw (le-ltb at seams.end more) refl))

-- WHERE NO BLOCK JUMPS TO THE NEXT SLOT

pub none_saved : (g : Graph) → NoneFalls g → words_of (fallen g) ≡ words_of g
none_saved g falls = ap (λ bs. words_of (record g { blocks = bs })) falls

-- ONCE PIECES ARE EXCHANGED

pub placed_exchanged : (g h : Graph) (seams : Seams) (old new : Places) → IsExchanged g h seams → words_of h ≡ words_of g → IsPlaced g old → ((n : ℕ) → placed_at new.addresses n ≡ option_map (exchanged_to seams) (placed_at old.addresses n)) → new.words ≡ old.words → new.branches ≡ old.branches → IsPlaced h new
placed_exchanged g h seams old new x words placed is same marks = record {
  addresses = λ n. is n ∙ ap (option_map (exchanged_to seams)) (placed.addresses n) ∙ by_address n (address_by block_words g.blocks 0 n) refl;
  words = same ∙ placed.words ∙ sym words;
  branches = subst (AreMarked h) (sym marks) (marked_exchanged g h seams old.branches x placed.branches);
}
  where
    by_address : (n : ℕ) (o : Option ℕ) → address_by block_words g.blocks 0 n ≡ o → option_map (exchanged_to seams) (address_by block_words g.blocks 0 n) ≡ address_by block_words h.blocks 0 n
    by_address n None none =
        let gone : value_of (named g.blocks) n ≡ None = somewhere g.blocks n 0 none in
        ap (option_map (exchanged_to seams)) none ∙ sym (absent h.blocks n 0 (x.same n ∙ gone))
    by_address n (Some at) found =
        ap (option_map (exchanged_to seams)) found
        ∙ sym (x.shifted n at (exchanged_to seams at) found (shifted_is seams at x.first x.second))

-- A FALL

pub placed_fell : (g : Graph) (m n start : ℕ) (old new : Places) → term_of g m ≡ Some (Jump n) → IsPlaced g old → start ≡ get_or old.addresses m nowhere → ((k : ℕ) → placed_at new.addresses k ≡ option_map (lowered_to (4 * start)) (placed_at old.addresses k)) → new.words + 1 ≡ old.words → new.branches ≡ old.branches → IsPlaced (with_term g m Fall) new
placed_fell g m n start old new jump placed at is less marks =
    let found = stands_there block_words g m (has_term g m (Jump n) jump) in
    let same : 4 * start ≡ stands_at block_words g m = behind_is start (stands_at block_words g m) (ap address_behind at ∙ placed.addresses m ∙ found) in
    record {
      addresses = λ k. is k ∙ ap (option_map (lowered_to (4 * start))) (placed.addresses k) ∙ sym (fell_addresses g.blocks m n 0 (4 * start) k jump (found ∙ ap Some (sym same)));
      words = omega (arith, less, placed.words, fell_words g.blocks m n jump);
      branches = subst (AreMarked (with_term g m Fall)) (sym marks) (marked_fell g m old.branches placed.branches);
    }

-- A BLOCK THAT IS EMPTY WITH FALL GOES

module _ (g : Graph) (m : ℕ) (rules : IsGraph g) where
  pub placed_without : (old new : Places) → IsBareAt g m → IsPlaced g old → ((k : ℕ) → placed_at new.addresses k ≡ (if m == k then None else placed_at old.addresses k)) → new.words ≡ old.words → new.branches ≡ old.branches → IsPlaced (without_block g m) new
  placed_without old new bare placed is words marks =
      let none : (b : Block) → block_of g m ≡ Some b → block_words b ≡ 0 = λ b found.
      let both : Some b ≡ Some bare.block = sym found ∙ bare.there in
      let same : b ≡ bare.block = cc in
      let is : is_bare b ≡ true = ap is_bare same ∙ bare.bare in
      omega (arith, ap (λ is. length is) (bare_items b is), fall_words b.term (bare_falls b is)) in
      let gone = somewhere (without_block g m).blocks m 0 (without_addresses g.blocks m 0 m rules.distinct none ∙ rw (eq-eqb m m refl) refl) in
      record {
        addresses = λ k. is k ∙ ap (λ o. if m == k then None else o) (placed.addresses k) ∙ sym (without_addresses g.blocks m 0 k rules.distinct none);
        words = omega (arith, words, placed.words, without_words g.blocks m none);
        branches = subst (AreMarked (without_block g m)) (sym marks) (marked_without g m old.branches gone placed.branches);
      }

  -- a block before it doesn't jump to it
  left_at : NoneFalls g → IsLeft m g.blocks
  left_at falls p slot jump =
      let fewer = falls_fewer g p (record { to = m; jump = jump; next = slot }) in
      omega (arith, fewer, ap (sum_by block_words) falls)

  pub falls_without : NoneFalls g → IsSpanned m g.blocks → NoneFalls (without_block g m)
  falls_without falls over = fallen_without m g.blocks rules.distinct (left_at falls) over ∙ ap (λ bs. with_blocks (λ _. []) bs m) falls

-- A JOIN

-- the one goes, and the other stays
joined_gone : (bs : List Block) (m n : ℕ) → HasDistinctKeys (named bs) → next_key (named bs) m ≡ Some n → value_of (named (joined_at bs m)) n ≡ None
joined_gone [] m n distinct slot = absurd (cc)
joined_gone (b ∷ []) m n distinct slot =
    elim (cases_Bool (b.name == m)) [ inl here ↦ absurd (cc (rw here at slot)) | inr apart ↦ absurd (cc (rw apart at slot)) ]
joined_gone (b ∷ next ∷ rest) m n distinct slot =
    elim (cases_Bool (b.name == m)) [
      | inl here ↦
          let first : Some next.name ≡ Some n = rw here at slot in
          let named_n : next.name ≡ n = cc in
          let other = apart_from b (next ∷ rest) n distinct (first_there next rest n named_n) in
          rw (here, other)
          (subst (λ k. value_of (named rest) k ≡ None) named_n (absent_behind (next.name, next) (named rest) (rest_distinct b (next ∷ rest) distinct)))
      | inr apart ↦
          let later : next_key (named (next ∷ rest)) m ≡ Some n = rw apart at slot in
          let other = apart_from b (next ∷ rest) n distinct (next_there (next ∷ rest) m n later) in
          rw (apart, other) (joined_gone (next ∷ rest) m n (rest_distinct b (next ∷ rest) distinct) later)
    ]

-- it is joined to the block before, if the graph isn't the same
pub record IsJoinedTo (g : Graph) (n : ℕ) : Type 0 where
  pub before : ℕ
  pub slot : next_of g before ≡ Some n
  pub falls : term_of g before ≡ Some Fall
  pub is : joined_before g n ≡ joined_with_next g before

module _ (g : Graph) (n : ℕ) (rules : IsGraph g) where
  by_term : (m : ℕ) → next_of g m ≡ Some n → (o : Option Term) → term_of g m ≡ o → (joined_before g n ≡ g) ⊎ IsJoinedTo g n
  by_term m slot None none = absurd (cc (none, some_term (value_of (named g.blocks) m) (next_has g.blocks m n slot)))
    where
      some_term : (o : Option Block) → IsSome o → IsSome (block_term o)
      some_term None some = some
      some_term (Some b) some = refl
  by_term m slot (Some t) term =
      elim (cases_Bool (is_fall t)) [
        | inr other ↦
            inl
            (sym
            (joins_not g n rules
            (λ k u next is.
            let same = one_before g m k n rules slot next in
            let both : Some u ≡ Some t = sym is ∙ ap (term_of g) (sym same) ∙ term in
            let term_is : u ≡ t = cc in
            ap is_fall term_is ∙ other)))
        | inl falls ↦
            elim (cases_Bool (is_among (uses g) n)) [
              | inl used ↦ inl (rw used refl)
              | inr unused ↦
                  let fall : term_of g m ≡ Some Fall = term ∙ ap Some (fall_is t falls) in
                  inr (record { before = m; slot = slot; falls = fall; is = sym (joins g n rules m slot fall unused) })
            ]
      ]

  by_previous : (o : Option Block) → value_of (named g.blocks) n ≡ o → (p : Option ℕ) → previous_key (named g.blocks) n ≡ p → (joined_before g n ≡ g) ⊎ IsJoinedTo g n
  by_previous None absent p is = inl (sym (joins_not g n rules (λ m t next term. absurd (cc (ap is_some absent, next_there g.blocks m n next)))))
  by_previous (Some b) there None none = inl (sym (joins_not g n rules (λ m t next term. absurd (previous_none g rules n m none next))))
  by_previous (Some b) there (Some m) some =
      let slot = before_next g rules n (ap is_some there) m some in
      by_term m slot (term_of g m) refl

  same_or_joined : (joined_before g n ≡ g) ⊎ IsJoinedTo g n
  same_or_joined = by_previous (value_of (named g.blocks) n) refl (previous_key (named g.blocks) n) refl

  pub placed_stays : (places : Places) → HasBlock (joined_before g n) n → IsPlaced g places → IsPlaced (joined_before g n) places
  placed_stays places there placed =
      elim same_or_joined [
        | inl same ↦ subst (λ (h : Graph). IsPlaced h places) (sym same) placed
        | inr joined ↦
            let none : value_of (named (joined_before g n).blocks) n ≡ None = ap (λ (h : Graph). value_of (named h.blocks) n) joined.is ∙ joined_gone g.blocks joined.before n rules.distinct joined.slot in
            absurd (cc (ap is_some none, there))
      ]

  pub placed_joined : (old new : Places) → ¬ HasBlock (joined_before g n) n → IsPlaced g old → ((k : ℕ) → placed_at new.addresses k ≡ (if n == k then None else placed_at old.addresses k)) → new.words ≡ old.words → ((k : ℕ) → is_marked old.branches k ≡ true → is_marked new.branches k ≡ true) → ((m : ℕ) → next_of g m ≡ Some n → is_marked old.branches n ≡ true → is_marked new.branches m ≡ true) → IsPlaced (joined_before g n) new
  placed_joined old new gone placed is same others marks =
      elim same_or_joined [
        | inl stays ↦
            subst (λ (h : Graph). IsPlaced h new) (sym stays)
            (record {
              addresses = λ k. is k ∙ ap (λ o. if n == k then None else o) (placed.addresses k) ∙ elim (cases_Bool (n == k)) [
                | inl here ↦ rw here (sym (absent g.blocks k 0 (no_block k here (subst (λ (h : Graph). ¬ HasBlock h n) stays gone))))
                | inr apart ↦ rw apart refl
              ];
              words = same ∙ placed.words;
              branches = λ k ends. others k (placed.branches k ends);
            })
        | inr joined ↦
            subst (λ (h : Graph). IsPlaced h new) (sym joined.is)
            (record {
              addresses = λ k. is k ∙ ap (λ o. if n == k then None else o) (placed.addresses k) ∙ sym (joined_addresses g.blocks joined.before n 0 k rules.distinct joined.slot joined.falls);
              words = omega (arith, same, placed.words, joined_words g.blocks joined.before joined.falls);
              branches = marked_joined g joined.before n old.branches new.branches rules joined.slot others (marks joined.before joined.slot) placed.branches;
            })
      ]
    where
      none_of : (o : Option Block) → ¬ IsSome o → o ≡ None
      none_of None without = refl
      none_of (Some b) without = absurd (without refl)

      no_block : (k : ℕ) → (n == k) ≡ true → ¬ HasBlock g n → value_of (named g.blocks) k ≡ None
      no_block k here without = subst (λ j. value_of (named g.blocks) j ≡ None) (eqb-true n k here) (none_of (value_of (named g.blocks) n) without)

  pub falls_joined : NoneFalls g → NoneFalls (joined_before g n)
  falls_joined falls =
      elim same_or_joined [
        | inl same ↦ subst NoneFalls (sym same) falls
        | inr joined ↦ subst NoneFalls (sym joined.is) (fallen_joined g.blocks joined.before ∙ ap (λ bs. joined_at bs joined.before) falls)
      ]

-- A SURVEY

-- there is room for the name of each block
placed_below : (g : Graph) (places : Places) → IsPlaced g places → AreBelow (length places.addresses) g
placed_below g places placed n has =
    placed_within places.addresses n (stands_at block_words g n) (placed.addresses n ∙ stands_there block_words g n has)

pub placed_survey : (g : Graph) (old : Survey) (places : Places) (names : ℕ) → old.falls ≡ 0 → IsInReach g → IsPlaced g places → NoneFalls g → names ≡ length places.addresses → IsSurvey g (record old { names = names; places = places; near = true })
placed_survey g old places names stays reach placed falls count = record {
  names = λ n has. subst (λ k. n < k) (sym count) (placed_below g places placed n has);
  addresses = λ n. placed.addresses n ∙ ap (λ bs. address_by block_words bs 0 n) (sym falls);
  falls = omega (arith, none_saved g falls, stays);
  near = λ _. subst (λ bs. IsInReach (record g { blocks = bs })) (sym falls) reach;
  words = placed.words;
  branches = placed.branches;
}
