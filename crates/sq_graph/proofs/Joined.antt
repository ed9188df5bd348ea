-- What is kept where blocks are joined.
use Rattle.std.proofs.Common.{◌≡◌, ℕ, ◌+◌, ◌≤◌, ◌==◌, Bool, true, false, ◌&&◌, ◌||◌, not, List, [], ◌∷◌, ◌++◌, length, Option, IsSome, refl, sym, ap, ◌∙◌, inl, inr, arith, length-append, append_assoc}
use Rattle.std.proofs.lemmas.Bool.{cases_Bool, and_parts, eqb-true, not-true}
use Rattle.std.proofs.lemmas.List.Elements.{All-cons, All-head, All-tail}
use Rattle.std.proofs.lemmas.List.Sums.{sum_by-cons}
use Rattle.std.specs.List.{All, flat_map, sum_by}
use Rattle.sq_arena.specs.Entries.{HasDistinctKeys, value_of}
use Rattle.sq_arena.specs.Links.{times, places}
use Rattle.sq_arena.proofs.EntriesLaws.{distinct_keys, times_at_most_once}
use Rattle.sq_graph.specs.declared.item.Item.{Item}
use Rattle.sq_graph.specs.Graph.{Block}
use Rattle.sq_graph.specs.Terms.{goes_on}
use Rattle.sq_graph.specs.Blocks.{named, items_of_blocks}
use Rattle.sq_graph.specs.Uses.{term_uses, terms_uses}
use Rattle.sq_graph.specs.Rules.{TermFits, last_goes_on}
use Rattle.sq_graph.specs.Words.{block_words}
use Rattle.sq_graph.specs.Leaders.{is_fall, has_no_items, is_bare, follows_a_term, FallsIntoLeaders}
use Rattle.sq_graph.specs.Canonical.{joined_onto, joined_blocks}
use Rattle.sq_graph.proofs.Kept.{fall_uses, fall_words, has_name-cons}
use Rattle.sq_graph.proofs.Joining.{takes, with_next}

module _ (leads : ℕ → Bool) where
  pub takes_fall : (b next : Block) → takes leads b next ≡ true → is_fall b.term ≡ true
  takes_fall b next joins = (and_parts (is_fall b.term) (not (leads next.name)) joins).0

  pub takes_name : (b next : Block) → takes leads b next ≡ true → leads next.name ≡ false
  takes_name b next joins = not-true (leads next.name) (and_parts (is_fall b.term) (not (leads next.name)) joins).1

  -- what a block takes over with the next one's
  module _ {X : Type 0} (h : Block → List X) (whole : (b next : Block) → is_fall b.term ≡ true → h (with_next leads b next) ≡ h b ++ h next) where
    flat_map-onto : (b : Block) (bs : List Block) → flat_map h (joined_onto leads b bs) ≡ h b ++ flat_map h bs
    flat_map-onto b [] = refl
    flat_map-onto b (next ∷ rest) =
        elim (cases_Bool (takes leads b next)) [
          | inl joins ↦
              rw joins
              (ap (λ xs. xs ++ flat_map h rest) (whole b next (takes_fall b next joins)) ∙ append_assoc (h b) (h next) (flat_map h rest))
          | inr apart ↦ rw apart refl
        ]

    pub flat_map-joined : (bs : List Block) → flat_map h (joined_blocks leads bs) ≡ flat_map h bs
    flat_map-joined [] = refl
    flat_map-joined (b ∷ bs) = flat_map-onto b (joined_blocks leads bs) ∙ ap (λ xs. h b ++ xs) (flat_map-joined bs)

  pub items_of_blocks-joined : (bs : List Block) → items_of_blocks (joined_blocks leads bs) ≡ items_of_blocks bs
  items_of_blocks-joined bs = flat_map-joined (λ b. b.items) (λ b next fall. refl) bs

  pub terms_uses-joined : (bs : List Block) → terms_uses (joined_blocks leads bs) ≡ terms_uses bs
  terms_uses-joined bs = flat_map-joined (λ b. term_uses b.term) (λ b next fall. ap (λ us. us ++ term_uses next.term) (sym (fall_uses b.term fall))) bs

  words-onto : (b : Block) (bs : List Block) → sum_by block_words (joined_onto leads b bs) ≡ block_words b + sum_by block_words bs
  words-onto b [] = sum_by-cons block_words b []
  words-onto b (next ∷ rest) =
      elim (cases_Bool (takes leads b next)) [
        | inl joins ↦
            rw joins
            (omega (
              arith,
              sum_by-cons block_words (with_next leads b next) rest,
              sum_by-cons block_words next rest,
              length-append b.items next.items,
              fall_words b.term (takes_fall b next joins),
            ))
        | inr apart ↦ rw apart (sum_by-cons block_words b (next ∷ rest))
      ]

  pub words-joined : (bs : List Block) → sum_by block_words (joined_blocks leads bs) ≡ sum_by block_words bs
  words-joined [] = refl
  words-joined (b ∷ bs) = omega (arith, words-onto b (joined_blocks leads bs), words-joined bs, sum_by-cons block_words b bs)

  length-onto : (b : Block) (bs : List Block) → length (joined_onto leads b bs) ≤ length bs + 1
  length-onto b [] = omega arith
  length-onto b (next ∷ rest) =
      elim (cases_Bool (takes leads b next)) [ inl joins ↦ rw joins (omega arith) | inr apart ↦ rw apart (omega arith) ]

  pub length-joined : (bs : List Block) → length (joined_blocks leads bs) ≤ length bs
  length-joined [] = omega arith
  length-joined (b ∷ bs) = omega (arith, length-onto b (joined_blocks leads bs), length-joined bs)

  -- the last block ends as before
  ends-onto : (b : Block) (bs : List Block) → last_goes_on (joined_onto leads b bs) ≡ last_goes_on (b ∷ bs)
  ends-onto b [] = refl
  ends-onto b (next ∷ []) =
      elim (cases_Bool (takes leads b next)) [ inl joins ↦ rw joins refl | inr apart ↦ rw apart refl ]
  ends-onto b (next ∷ other ∷ rest) =
      elim (cases_Bool (takes leads b next)) [ inl joins ↦ rw joins refl | inr apart ↦ rw apart refl ]

  pub ends-joined : (bs : List Block) → last_goes_on (joined_blocks leads bs) ≡ last_goes_on bs
  ends-joined [] = refl
  ends-joined (b ∷ []) = refl
  ends-joined (b ∷ next ∷ rest) =
      ends-onto b (joined_blocks leads (next ∷ rest)) ∙ same_last (joined_blocks leads (next ∷ rest)) (not_empty next (joined_blocks leads rest)) ∙ ends-joined (next ∷ rest)
    where
      same_last : (bs : List Block) → 1 ≤ length bs → last_goes_on (b ∷ bs) ≡ last_goes_on bs
      same_last [] some = absurd (omega arith)
      same_last (c ∷ bs) some = refl

      not_empty : (c : Block) (bs : List Block) → 1 ≤ length (joined_onto leads c bs)
      not_empty c [] = omega arith
      not_empty c (d ∷ bs) =
          elim (cases_Bool (takes leads c d)) [ inl joins ↦ rw joins (omega arith) | inr apart ↦ rw apart (omega arith) ]

  -- what stands behind a term that goes on and isn't Fall still does
  joins_nothing : (t : Bool) (f : Bool) (e : Bool) → f ≡ true → (t && not f && e) ≡ false
  joins_nothing true true e fall = refl
  joins_nothing false f e fall = refl
  joins_nothing true false e fall = absurd (cc)

  follows-onto : (b : Block) (bs : List Block) (name : ℕ) → follows_a_term (joined_onto leads b bs) name ≡ follows_a_term (b ∷ bs) name
  follows-onto b [] name = refl
  follows-onto b (next ∷ []) name =
      elim (cases_Bool (takes leads b next)) [
        | inl joins ↦ rw (joins, joins_nothing (goes_on b.term) (is_fall b.term) (next.name == name) (takes_fall b next joins)) refl
        | inr apart ↦ rw apart refl
      ]
  follows-onto b (next ∷ other ∷ rest) name =
      elim (cases_Bool (takes leads b next)) [
        | inl joins ↦ rw (joins, joins_nothing (goes_on b.term) (is_fall b.term) (next.name == name) (takes_fall b next joins)) refl
        | inr apart ↦ rw apart refl
      ]

  -- the first name stays
  first-onto : (b c : Block) (bs : List Block) (name : ℕ) → follows_a_term (b ∷ joined_onto leads c bs) name ≡ (goes_on b.term && not (is_fall b.term) && c.name == name || follows_a_term (joined_onto leads c bs) name)
  first-onto b c [] name = refl
  first-onto b c (d ∷ bs) name =
      elim (cases_Bool (takes leads c d)) [ inl joins ↦ rw joins refl | inr apart ↦ rw apart refl ]

  pub follows-joined : (bs : List Block) (name : ℕ) → follows_a_term (joined_blocks leads bs) name ≡ follows_a_term bs name
  follows-joined [] name = refl
  follows-joined (b ∷ []) name = refl
  follows-joined (b ∷ next ∷ rest) name =
      follows-onto b (joined_blocks leads (next ∷ rest)) name
      ∙ first-onto b next (joined_blocks leads rest) name
      ∙ ap (λ t. goes_on b.term && not (is_fall b.term) && next.name == name || t) (follows-joined (next ∷ rest) name)

  times-onto : (p : Option ℕ) (b : Block) (bs : List Block) → times p (places (named (joined_onto leads b bs))) ≤ times p (places (named (b ∷ bs)))
  times-onto p b [] = omega arith
  times-onto p b (next ∷ rest) =
      elim (cases_Bool (takes leads b next)) [ inl joins ↦ rw joins (omega arith) | inr apart ↦ rw apart (omega arith) ]

  times-joined : (p : Option ℕ) (bs : List Block) → times p (places (named (joined_blocks leads bs))) ≤ times p (places (named bs))
  times-joined p [] = omega arith
  times-joined p (b ∷ bs) = omega (arith, times-onto p b (joined_blocks leads bs), times-joined p bs)

  pub distinct-joined : (bs : List Block) → HasDistinctKeys (named bs) → HasDistinctKeys (named (joined_blocks leads bs))
  distinct-joined bs distinct = distinct_keys (named (joined_blocks leads bs)) (λ p. omega (arith, times-joined p bs, times_at_most_once (named bs) distinct p))

  -- a leader is no block that goes
  leader-onto : (b : Block) (bs : List Block) (name : ℕ) → leads name ≡ true → IsSome (value_of (named (b ∷ bs)) name) → IsSome (value_of (named (joined_onto leads b bs)) name)
  leader-onto b [] name leader some = some
  leader-onto b (next ∷ rest) name leader some =
      elim (cases_Bool (takes leads b next)) [
        | inr apart ↦ rw apart some
        | inl joins ↦
            elim (cases_Bool (b.name == name)) [
              | inl here ↦ rw (joins, here) refl
              | inr other ↦
                  elim (cases_Bool (next.name == name)) [
                    | inl this ↦ absurd (cc (takes_name b next joins, leader, ap leads (eqb-true next.name name this)))
                    | inr that ↦
                        let gone : IsSome (value_of (named rest) name) = rw (other, that) at some in
                        rw (joins, other) gone
                  ]
            ]
      ]

  pub leader-joined : (bs : List Block) (name : ℕ) → leads name ≡ true → IsSome (value_of (named bs) name) → IsSome (value_of (named (joined_blocks leads bs)) name)
  leader-joined [] name leader some = some
  leader-joined (b ∷ bs) name leader some =
      leader-onto b (joined_blocks leads bs) name leader
      (elim (cases_Bool (b.name == name)) [
        | inl here ↦ rw here refl
        | inr apart ↦ has_name-cons b (joined_blocks leads bs) name (leader-joined bs name leader (rw apart at some))
      ])

  -- what holds of each block, and of one that takes over the next
  module _ (P : Block → Type 0) (goes_over : (b next : Block) → takes leads b next ≡ true → P b → P next → P (with_next leads b next)) where
    all-onto : (b : Block) (bs : List Block) → P b → All P bs → All P (joined_onto leads b bs)
    all-onto b [] first rest = All-cons P b [] first rest
    all-onto b (next ∷ bs) first rest =
        elim (cases_Bool (takes leads b next)) [
          | inl joins ↦
              rw joins
              (All-cons P (with_next leads b next) bs (goes_over b next joins first (All-head P next bs rest)) (All-tail P next bs rest))
          | inr apart ↦ rw apart (All-cons P b (next ∷ bs) first rest)
        ]

    pub all-joined : (bs : List Block) → All P bs → All P (joined_blocks leads bs)
    all-joined [] each = each
    all-joined (b ∷ bs) each = all-onto b (joined_blocks leads bs) (All-head P b bs each) (all-joined bs (All-tail P b bs each))

  pub terms_fit-joined : (bs : List Block) → All (λ b. TermFits b.term) bs → All (λ b. TermFits b.term) (joined_blocks leads bs)
  terms_fit-joined bs fit = all-joined (λ b. TermFits b.term) (λ b next joins first second. second) bs fit

  pub none_bare-joined : (bs : List Block) → All (λ b. is_bare b ≡ false) bs → All (λ b. is_bare b ≡ false) (joined_blocks leads bs)
  none_bare-joined bs none = all-joined (λ b. is_bare b ≡ false) solid bs none
    where
      longer : (xs ys : List Item) (f f' : Bool) → f ≡ true → (has_no_items xs && f) ≡ false → (has_no_items (xs ++ ys) && f') ≡ false
      longer [] ys f f' fall solid = absurd (cc)
      longer (x ∷ xs) ys f f' fall solid = refl

      solid : (b next : Block) → takes leads b next ≡ true → is_bare b ≡ false → is_bare next ≡ false → is_bare (with_next leads b next) ≡ false
      solid b next joins first second = longer b.items next.items (is_fall b.term) (is_fall next.term) (takes_fall b next joins) first

  into_leader : (f l : Bool) → (f && not l) ≡ false → f ≡ true → l ≡ true
  into_leader f true apart fall = refl
  into_leader true false apart fall = absurd (cc)
  into_leader false false apart fall = absurd (cc)

  falls-onto : (b : Block) (bs : List Block) → FallsIntoLeaders leads bs → FallsIntoLeaders leads (joined_onto leads b bs)
  falls-onto b [] rest = tt
  falls-onto b (next ∷ []) rest =
      elim (cases_Bool (takes leads b next)) [
        | inl joins ↦ rw joins tt
        | inr apart ↦ rw apart (into_leader (is_fall b.term) (leads next.name) apart, tt)
      ]
  falls-onto b (next ∷ other ∷ bs) rest =
      elim (cases_Bool (takes leads b next)) [
        | inl joins ↦ rw joins rest
        | inr apart ↦ rw apart (into_leader (is_fall b.term) (leads next.name) apart, rest)
      ]

  -- no block that is no leader is fallen into
  pub falls-joined : (bs : List Block) → FallsIntoLeaders leads (joined_blocks leads bs)
  falls-joined [] = tt
  falls-joined (b ∷ bs) = falls-onto b (joined_blocks leads bs) (falls-joined bs)
