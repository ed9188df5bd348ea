-- A graph in which each Jump to the next slot is Fall: its words, and which of its Branches don't reach.
use Rattle.std.proofs.Common.{◌≡◌, ◌≢◌, ◌⊎◌, ℕ, ◌+◌, ◌*◌, ◌≤◌, ◌<◌, ◌==◌, if◌then◌else◌, not, Bool, false, List, [], ◌∷◌, length, map, sum_by, Option, Some, None, IsSome, is_some, inl, inr, refl, sym, ap, ◌∙◌, subst, arith}
use Rattle.std.proofs.lemmas.Bool.{cases_Bool, eqb-true, eq-eqb, or_right, both_ways}
use Rattle.std.proofs.lemmas.List.Sums.{sum_by-cons}
use Rattle.sq_arena.specs.Entries.{value_of, next_key}
use Rattle.sq_graph.specs.declared.item.Item.{Item}
use Rattle.sq_graph.specs.declared.item.Term.{Term}
use Rattle.sq_graph.specs.declared.item.Term.TheVariants.{Fall, Jump, Branch, Call, PartJump, Indirect, Stop}
use Rattle.sq_graph.specs.Graph.{Block, Graph}
use Rattle.sq_graph.specs.Blocks.{named, HasBlock, block_of, block_items, items_of, block_term, term_of}
use Rattle.sq_graph.specs.Parts.{names_of}
use Rattle.sq_graph.specs.Places.{IsInReach}
use Rattle.sq_graph.specs.Rules.{IsGraph}
use Rattle.sq_graph.specs.Words.{term_words, block_words, words_of}
use Rattle.sq_layout.specs.Weights.{address_by}
use Rattle.sq_layout.proofs.Shrinking.{branch_reaches, reach_is}
use Rattle.sq_layout.proofs.Weighing.{by_words}
use Rattle.sq_lookup.specs.Addresses.{address_at}
use Rattle.sq_chain.specs.Least.{is_near, stands_at, is_short, falls_short, least, least_widened}
use Rattle.sq_chain.specs.Moves.{JumpsToNext, fallen_term, fallen_blocks, fallen}
use Rattle.sq_chain.specs.Widening.{swollen, IsValid, IsWithin, size_of, widened_blocks, fresh}
use Rattle.sq_chain.proofs.Adding.{stands_are}
use Rattle.sq_chain.proofs.Fallen.{fallen_keeps}
use Rattle.sq_chain.proofs.Near.{are_branches, widened_near}
use Rattle.sq_chain.proofs.Over.{widened_words}
use Rattle.sq_chain.proofs.Rounds.{IsClosed, closed_valid, count_of, count_yes, count_no, count_more, least_is_least, short_there}
use Rattle.sq_chain.proofs.Shortness.{grown_within}

-- WORDS

pub fallen_light : (n : ℕ) (t : Term) → term_words (fallen_term n t) ≤ term_words t
fallen_light n Fall = omega arith
fallen_light n (Jump to) = elim (cases_Bool (to == n)) [ inl same ↦ rw same (omega arith) | inr apart ↦ rw apart (omega arith) ]
fallen_light n (Branch cond x y to) = omega arith
fallen_light n (Call link to) = omega arith
fallen_light n (PartJump link part to) = omega arith
fallen_light n (Indirect link x offset) = omega arith
fallen_light n (Stop word) = omega arith

pub fallen_most : (bs : List Block) → sum_by block_words (fallen_blocks bs) ≤ sum_by block_words bs
fallen_most [] = omega arith
fallen_most (b ∷ []) = omega arith
fallen_most (b ∷ next ∷ rest) =
    omega (
      arith,
      fallen_most (next ∷ rest),
      fallen_light next.name b.term,
      sum_by-cons block_words b (next ∷ rest),
      sum_by-cons block_words (record b { term = fallen_term next.name b.term }) (fallen_blocks (next ∷ rest)),
    )

-- a word less where a block jumps to the next slot
fallen_fewer : (bs : List Block) (n to : ℕ) → block_term (value_of (named bs) n) ≡ Some (Jump to) → next_key (named bs) n ≡ Some to → sum_by block_words (fallen_blocks bs) < sum_by block_words bs
fallen_fewer [] n to jump next = absurd (cc)
fallen_fewer (b ∷ []) n to jump next = elim (cases_Bool (b.name == n)) [ inl here ↦ absurd (cc (rw here at next)) | inr apart ↦ absurd (cc (rw apart at jump)) ]
fallen_fewer (b ∷ c ∷ rest) n to jump next =
    let all = sum_by-cons block_words b (c ∷ rest) in
    let all' = sum_by-cons block_words (record b { term = fallen_term c.name b.term }) (fallen_blocks (c ∷ rest)) in
    elim (cases_Bool (b.name == n)) [
      | inl here ↦
          let is : Some b.term ≡ Some (Jump to) = rw here at jump in
          let term : b.term ≡ Jump to = cc in
          let slot : Some c.name ≡ Some to = rw here at next in
          let same : c.name ≡ to = cc in
          let falls : fallen_term c.name b.term ≡ Fall = ap (fallen_term c.name) term ∙ ap (λ t. if t then Fall else Jump to) (eq-eqb to c.name (sym same)) in
          let none : term_words (fallen_term c.name b.term) ≡ 0 = ap term_words falls in
          let one : term_words b.term ≡ 1 = ap term_words term in
          omega (arith, all, all', none, one, fallen_most (c ∷ rest))
      | inr apart ↦
          let later = fallen_fewer (c ∷ rest) n to (rw apart at jump) (rw apart at next) in
          omega (arith, all, all', later, fallen_light c.name b.term)
    ]

pub falls_fewer : (g : Graph) (block : ℕ) → JumpsToNext g block → words_of (fallen g) < words_of g
falls_fewer g block j = omega (arith, fallen_fewer g.blocks block j.to j.jump j.next)

-- ONE BLOCK

-- a term that stays, or falls
record TermStays (n : ℕ) (t : Term) : Type 0 where
  pub same : fallen_term n t ≡ t
  pub other : (to : ℕ) → t ≡ Jump to → n ≢ to

record TermFalls (n : ℕ) (t : Term) : Type 0 where
  pub to : ℕ
  pub jump : t ≡ Jump to
  pub slot : n ≡ to
  pub falls : fallen_term n t ≡ Fall

term_falls : (n : ℕ) (t : Term) → TermStays n t ⊎ TermFalls n t
term_falls n Fall = inl (record { same = refl; other = λ to e. absurd (cc) })
term_falls n (Jump aim) =
    elim (cases_Bool (aim == n)) [
      | inl same ↦ inr (record { to = aim; jump = refl; slot = sym (eqb-true aim n same); falls = rw same refl })
      | inr apart ↦ inl (record { same = rw apart refl; other = λ to e same. let aim_is : aim ≡ to = cc in both_ways (aim == n) apart (eq-eqb aim n (aim_is ∙ sym same)) })
    ]
term_falls n (Branch cond x y to) = inl (record { same = refl; other = λ to e. absurd (cc) })
term_falls n (Call link to) = inl (record { same = refl; other = λ to e. absurd (cc) })
term_falls n (PartJump link part to) = inl (record { same = refl; other = λ to e. absurd (cc) })
term_falls n (Indirect link x offset) = inl (record { same = refl; other = λ to e. absurd (cc) })
term_falls n (Stop word) = inl (record { same = refl; other = λ to e. absurd (cc) })

-- a block that stays, or falls
pub record Stays (bs : List Block) (n : ℕ) : Type 0 where
  pub same : value_of (named (fallen_blocks bs)) n ≡ value_of (named bs) n
  pub other : (to : ℕ) → block_term (value_of (named bs) n) ≡ Some (Jump to) → next_key (named bs) n ≡ Some to → ⊥

pub record Falls (bs : List Block) (n : ℕ) : Type 0 where
  pub block : Block
  pub to : ℕ
  pub was : value_of (named bs) n ≡ Some block
  pub jump : block.term ≡ Jump to
  pub slot : next_key (named bs) n ≡ Some to
  pub is : value_of (named (fallen_blocks bs)) n ≡ Some (record block { term = Fall })

pub block_falls : (bs : List Block) (n : ℕ) → Stays bs n ⊎ Falls bs n
block_falls [] n = inl (record { same = refl; other = λ to jump slot. absurd (cc) })
block_falls (b ∷ []) n = inl (record {
  same = refl;
  other = λ to jump slot. elim (cases_Bool (b.name == n)) [ inl here ↦ absurd (cc (rw here at slot)) | inr apart ↦ absurd (cc (rw apart at jump)) ];
})
block_falls (b ∷ next ∷ rest) n =
    elim (cases_Bool (b.name == n)) [
      | inl here ↦
          elim (term_falls next.name b.term) [
            | inl stays ↦ inl (record {
              same = rw here (ap (λ (t : Term). Some (record b { term = t })) stays.same);
              other = λ to jump slot.
                  let is : Some b.term ≡ Some (Jump to) = rw here at jump in
                  let term : b.term ≡ Jump to = cc in
                  let first : Some next.name ≡ Some to = rw here at slot in
                  let same : next.name ≡ to = cc in
                  stays.other to term same;
            })
            | inr falls ↦ inr (record {
              block = b;
              to = falls.to;
              was = rw here refl;
              jump = falls.jump;
              slot = rw here (ap Some falls.slot);
              is = rw here (ap (λ (t : Term). Some (record b { term = t })) falls.falls);
            })
          ]
      | inr apart ↦
          elim (block_falls (next ∷ rest) n) [
            | inl stays ↦ inl (record { same = rw apart stays.same; other = λ to jump slot. stays.other to (rw apart at jump) (rw apart at slot) })
            | inr falls ↦ inr (record { block = falls.block; to = falls.to; was = rw apart falls.was; jump = falls.jump; slot = rw apart falls.slot; is = rw apart falls.is })
          ]
    ]

some_block : (b c : Block) → Some b ≡ Some c → b ≡ c
some_block b c e = cc

-- its words
pub falls_one : (g : Graph) (n : ℕ) (b c : Block) → JumpsToNext g n → block_of g n ≡ Some b → block_of (fallen g) n ≡ Some c → block_words c + 1 ≡ block_words b
falls_one g n b c j was is =
    elim (block_falls g.blocks n) [
      | inl stays ↦ absurd (stays.other j.to j.jump j.next)
      | inr falls ↦
          let old : falls.block ≡ b = some_block falls.block b (sym falls.was ∙ was) in
          let new : record falls.block { term = Fall } ≡ c = some_block (record falls.block { term = Fall }) c (sym falls.is ∙ is) in
          let one : term_words falls.block.term ≡ 1 = ap term_words falls.jump in
          omega (arith, ap block_words old, ap block_words new, one)
    ]

pub falls_none : (g : Graph) (n : ℕ) (b c : Block) → ¬ JumpsToNext g n → block_of g n ≡ Some b → block_of (fallen g) n ≡ Some c → block_words c + 0 ≡ block_words b
falls_none g n b c other was is =
    elim (block_falls g.blocks n) [
      | inl stays ↦ let same : b ≡ c = some_block b c (sym was ∙ sym stays.same ∙ is) in omega (arith, ap block_words same)
      | inr falls ↦ absurd (other (record { to = falls.to; jump = ap block_term falls.was ∙ ap Some falls.jump; next = falls.slot }))
    ]

pub fallen_there : (g : Graph) (n : ℕ) → HasBlock (fallen g) n → HasBlock g n
fallen_there g n has = elim (block_falls g.blocks n) [ inl stays ↦ subst (λ (o : Option Block). IsSome o) stays.same has | inr falls ↦ ap is_some falls.was ]

fallen_named : (bs : List Block) → map (λ (b : Block). b.name) (fallen_blocks bs) ≡ map (λ (b : Block). b.name) bs
fallen_named [] = refl
fallen_named (b ∷ []) = refl
fallen_named (b ∷ next ∷ rest) = ap (λ (ns : List ℕ). b.name ∷ ns) (fallen_named (next ∷ rest))

pub fallen_names : (g : Graph) → names_of (fallen g) ≡ names_of g
fallen_names g = fallen_named g.blocks

pub fallen_count : (S : ℕ → Bool) (bs : List Block) → count_of S (fallen_blocks bs) ≡ count_of S bs
fallen_count S [] = refl
fallen_count S (b ∷ []) = refl
fallen_count S (b ∷ next ∷ rest) =
    let c : Block = record b { term = fallen_term next.name b.term } in
    elim (cases_Bool (S b.name)) [
      | inl listed ↦ omega (arith, fallen_count S (next ∷ rest), count_yes S b (next ∷ rest) listed, count_yes S c (fallen_blocks (next ∷ rest)) listed)
      | inr absent ↦ omega (arith, fallen_count S (next ∷ rest), count_no S b (next ∷ rest) absent, count_no S c (fallen_blocks (next ∷ rest)) absent)
    ]

-- WHICH BRANCHES DON'T REACH

by_items : (address : ℕ → ℕ) (g h : Graph) (n : ℕ) (o : Option Term) → items_of g n ≡ items_of h n → is_short address g n o ≡ is_short address h n o
by_items address g h n None e = refl
by_items address g h n (Some Fall) e = refl
by_items address g h n (Some (Jump to)) e = refl
by_items address g h n (Some (Branch cond a b to)) e = ap (λ (items : List Item). not (is_near (address n + 4 * length items) (address to))) e
by_items address g h n (Some (Call link to)) e = refl
by_items address g h n (Some (PartJump link part to)) e = refl
by_items address g h n (Some (Indirect link x offset)) e = refl
by_items address g h n (Some (Stop word)) e = refl

pub same_short : (address : ℕ → ℕ) (g : Graph) (n : ℕ) → is_short address (fallen g) n (term_of (fallen g) n) ≡ is_short address g n (term_of g n)
same_short address g n =
    elim (block_falls g.blocks n) [
      | inl stays ↦ by_items address (fallen g) g n (term_of (fallen g) n) (ap block_items stays.same) ∙ ap (is_short address g n) (ap block_term stays.same)
      | inr falls ↦ ap (is_short address (fallen g) n) (ap block_term falls.is) ∙ sym (ap (is_short address g n) (ap block_term falls.was ∙ ap Some falls.jump))
    ]

-- the same of a graph with the same blocks
pub ordered_short : (address : ℕ → ℕ) (g h : Graph) → ((n : ℕ) → block_of h n ≡ block_of g n) → (n : ℕ) → is_short address g n (term_of g n) ≡ is_short address h n (term_of h n)
ordered_short address g h same n = sym (by_items address h g n (term_of h n) (ap block_items (same n)) ∙ ap (is_short address g n) (ap block_term (same n)))

-- NOTHING TO BE WIDENED

none_swollen : swollen (λ n. false) ≡ block_words
none_swollen = λ i b. (plus_none (block_words b)) i
  where
    plus_none : (k : ℕ) → k + 0 ≡ k
    plus_none k = omega arith

none_valid : (h : Graph) → IsInReach h → IsValid h (λ n. false)
none_valid h reach = record {
  branches = λ n e. absurd (cc);
  reach = λ n cond a b to e out at target found aim.
      let at_is = sym (by_words h.blocks 0 n) ∙ subst (λ (w : Block → ℕ). address_by w h.blocks 0 n ≡ Some at) none_swollen found in
      let aim_is = sym (by_words h.blocks 0 to) ∙ subst (λ (w : Block → ℕ). address_by w h.blocks 0 to ≡ Some target) none_swollen aim in
      (reach_is h n to at target (length (items_of h n)) at_is aim_is refl).0 (branch_reaches h reach n cond a b to e);
}

pub none_least : (h : Graph) → IsGraph h → IsInReach h → (n : ℕ) → least h n ≡ false
none_least h rules reach n =
    elim (cases_Bool (least h n)) [
      | inl listed ↦ absurd (let f = (least_is_least h rules).least (λ k. false) (none_valid h reach) n listed in cc)
      | inr absent ↦ absent
    ]

pub none_widened : (new : ℕ → ℕ) (bs : List Block) → widened_blocks new (λ n. false) bs ≡ bs
none_widened new [] = refl
none_widened new (b ∷ []) = refl
none_widened new (b ∷ next ∷ rest) = ap (λ (cs : List Block). b ∷ cs) (none_widened new (next ∷ rest))

pub stays_narrow : (h : Graph) → IsGraph h → IsInReach h → least_widened h ≡ h
stays_narrow h rules reach =
    let set : least h ≡ (λ n. false) = λ i n. none_least h rules reach n i in
    ap (λ (S : ℕ → Bool). record h { blocks = widened_blocks (λ n. fresh h + n) S h.blocks }) set
    ∙ ap (λ (bs : List Block). record h { blocks = bs }) (none_widened (λ n. fresh h + n) h.blocks)

-- WHAT A MOVE COMES TO

-- a set that counts none has none
pub count_none : (S : ℕ → Bool) (bs : List Block) (n : ℕ) → count_of S bs ≡ 0 → IsSome (value_of (named bs) n) → S n ≡ false
count_none S [] n none some = absurd (cc)
count_none S (b ∷ bs) n none some =
    elim (cases_Bool (S b.name)) [
      | inl listed ↦ absurd (omega (arith, none, count_yes S b bs listed))
      | inr absent ↦
          elim (cases_Bool (b.name == n)) [
            | inl here ↦ subst (λ k. S k ≡ false) (eqb-true b.name n here) absent
            | inr apart ↦ count_none S bs n (omega (arith, none, count_no S b bs absent)) (rw apart at some)
          ]
    ]

-- by these addresses, where the blocks of the fallen graph stand
module _ (g : Graph) (rules : IsGraph g) (address : ℕ → Option ℕ) (are : (n : ℕ) → address n ≡ address_by block_words (fallen_blocks g.blocks) 0 n) where
  abbrev short : ℕ → Bool
  short n = is_short (address_at address) g n (term_of g n)

  h_rules : IsGraph (fallen g)
  h_rules = (fallen_keeps g rules).rules

  stand : address_at address ≡ stands_at (swollen (λ n. false)) (fallen g)
  stand = stands_are (swollen (λ n. false)) (fallen g) address (λ n. are n ∙ sym (ap (λ (w : Block → ℕ). address_by w (fallen_blocks g.blocks) 0 n) none_swollen))

  short_is_short : (n : ℕ) → falls_short (fallen g) (λ k. false) n ≡ is_short (address_at address) g n (term_of g n)
  short_is_short n = ap (λ (a : ℕ → ℕ). is_short a (fallen g) n (term_of (fallen g) n)) (sym stand) ∙ same_short (address_at address) g n

  -- where none is short, each reaches
  pub none_short : size_of g (λ n. is_short (address_at address) g n (term_of g n)) ≡ 0 → IsInReach (fallen g)
  none_short none =
      let closed : IsClosed (fallen g) (λ k. false) = λ n e.
      let there = fallen_there g n (short_there (fallen g) (λ k. false) n h_rules e) in
      absurd (both_ways (short n) (count_none short g.blocks n none there) (sym (short_is_short n) ∙ e)) in
      let valid = closed_valid (fallen g) (λ k. false) h_rules (λ n e. absurd (cc)) closed in
      subst (λ (bs : List Block). IsInReach (record g { blocks = bs })) (none_widened (λ n. n) (fallen_blocks g.blocks)) (widened_near (fallen g) (λ k. false) h_rules (λ n. n) valid (λ n e. absurd (cc)))

  -- as many as are short are widened at least
  pub short_widened : words_of (fallen g) + size_of g (λ n. is_short (address_at address) g n (term_of g n)) ≤ words_of (least_widened (fallen g))
  short_widened =
      let valid = (least_is_least (fallen g) h_rules).valid in
      let within : IsWithin short (least (fallen g)) = λ n e.
      grown_within (fallen g) (λ k. false) (least (fallen g)) h_rules valid (λ m f. absurd (cc)) n (or_right false (falls_short (fallen g) (λ k. false) n) (short_is_short n ∙ e)) in
      omega (
        arith,
        fallen_count short g.blocks,
        count_more short (least (fallen g)) (fallen_blocks g.blocks) within,
        widened_words (λ n. fresh (fallen g) + n) (least (fallen g)) (fallen_blocks g.blocks) (are_branches (fallen g) (least (fallen g)) h_rules valid.branches) h_rules.ends,
      )
