-- What a move comes to by its shift: where each block stands, and which Branches don't reach.
use Rattle.std.proofs.Common.{◌≡◌, ℕ, ◌+◌, ◌*◌, ◌≤◌, Bool, true, not, if◌then◌else◌, length, Option, None, Some, inl, inr, refl, sym, ap, ◌∙◌, arith}
use Rattle.std.proofs.lemmas.Bool.{eq-eqb, or_left, or_right}
use Rattle.sq_graph.specs.declared.item.Term.{Term}
use Rattle.sq_graph.specs.declared.item.Term.TheVariants.{Fall, Jump, Branch, Call, PartJump, Indirect, Stop}
use Rattle.sq_graph.specs.Graph.{Block, Graph}
use Rattle.sq_graph.specs.Blocks.{HasBlock, block_of, block_term, items_of, term_of}
use Rattle.sq_graph.specs.Rules.{IsGraph}
use Rattle.sq_graph.specs.Words.{term_words, block_words}
use Rattle.sq_lookup.proofs.Targets.{has_term, branch_there}
use Rattle.sq_chain.specs.Bare.{is_it}
use Rattle.sq_chain.specs.Least.{is_near, stands_at, is_short, falls_short}
use Rattle.sq_chain.specs.Moves.{IsMovable, fallen, carried}
use Rattle.sq_chain.specs.Seams.{IsExchanged}
use Rattle.sq_chain.specs.Settled.{IsSettledTo, is_wide, AreWide, word_ahead, swollen_to, is_short_by, IsSettled}
use Rattle.sq_chain.specs.Shifts.{exchanged_to}
use Rattle.sq_chain.specs.Widening.{swollen, EndsInBranch}
use Rattle.sq_chain.specs.declared.shift.Shift.{Shift}
use Rattle.sq_chain.specs.declared.shift.Wide.{Wide}
use Rattle.sq_chain.proofs.Carried.{carried_words}
use Rattle.sq_chain.proofs.Exchanging.{term_is}
use Rattle.sq_chain.proofs.Fallen.{fallen_keeps}
use Rattle.sq_chain.proofs.Lighter.{same_short, ordered_short, block_falls}
use Rattle.sq_chain.proofs.Missed.{settled_is}
use Rattle.sq_chain.proofs.Moved.{carried_there}
use Rattle.sq_chain.proofs.Reordered.{chain_moved_rules}
use Rattle.sq_chain.proofs.Replaced.{shifted_is}
use Rattle.sq_chain.proofs.Shortness.{stands_there}
use Rattle.sq_chain.proofs.Sunk.{IsMovedBy}
use Rattle.sq_chain.proofs.Swelling.{ahead_fallen, one_ahead, ahead_is, swell_both}

-- addresses that agree at a block and its target
short_same : (g : Graph) (a b : ℕ → ℕ) (n : ℕ) → IsGraph g → ((m : ℕ) → HasBlock g m → a m ≡ b m) → is_short a g n (term_of g n) ≡ is_short b g n (term_of g n)
short_same g a b n rules same = by_term (term_of g n) refl
  where
    by_term : (o : Option Term) → term_of g n ≡ o → is_short a g n o ≡ is_short b g n o
    by_term None is = refl
    by_term (Some Fall) is = refl
    by_term (Some (Jump to)) is = refl
    by_term (Some (Branch cond x y to)) is =
        ap (λ k. not (is_near (k + 4 * length (items_of g n)) (a to))) (same n (has_term g n (Branch cond x y to) is))
        ∙ ap (λ k. not (is_near (b n + 4 * length (items_of g n)) k)) (same to (branch_there g n cond x y to rules is))
    by_term (Some (Call link to)) is = refl
    by_term (Some (PartJump link part to)) is = refl
    by_term (Some (Indirect link x offset)) is = refl
    by_term (Some (Stop word)) is = refl

module _ (g : Graph) (from to : ℕ) (rules : IsGraph g) (movable : IsMovable g from to) (shift : Shift) (x : IsExchanged g (carried g from to) shift.seams) (m : IsMovedBy g (carried g from to) shift) where
  abbrev k : Graph
  k = carried g from to

  abbrev h : Graph
  h = fallen (carried g from to)

  there : (n : ℕ) → HasBlock g n → HasBlock (fallen (carried g from to)) n
  there n has = carried_there g from to n rules movable has

  h_rules : IsGraph (fallen (carried g from to))
  h_rules = (fallen_keeps (carried g from to) (chain_moved_rules g from to rules movable)).rules

  still_branch : (n : ℕ) → EndsInBranch g n → EndsInBranch (fallen (carried g from to)) n
  still_branch n e =
      let was : term_of (carried g from to) n ≡ Some (Branch e.cond e.a e.b e.to) = ap block_term (x.same n) ∙ e.is in
      elim (block_falls (carried g from to).blocks n) [
        | inl stays ↦ record { cond = e.cond; a = e.a; b = e.b; to = e.to; is = ap block_term stays.same ∙ was }
        | inr falls ↦ absurd (let other : Some (Jump falls.to) ≡ Some (Branch e.cond e.a e.b e.to) = sym (ap block_term falls.was ∙ ap Some falls.jump) ∙ was in cc)
      ]

  -- where a Branch is before a block, it is so in the order of the exchange
  branch_word : (p : ℕ) → EndsInBranch g p → (b : Block) → block_of (carried g from to) p ≡ Some b → 1 ≤ block_words b
  branch_word p e b found =
      let is = term_is g p b (Branch e.cond e.a e.b e.to) (sym (x.same p) ∙ found) e.is in
      omega (arith, ap term_words is)

  same_ahead : (o : Option ℕ) (n : ℕ) → ((p : ℕ) → is_it o p ≡ true → EndsInBranch g p) → HasBlock g n → one_ahead (fallen (carried g from to)).blocks o n ≡ word_ahead (stands_at block_words g) shift.seams o n
  same_ahead None n branches has = refl
  same_ahead (Some p) n branches has =
      let e = branches p (eq-eqb p p refl) in
      let p_has = has_term g p (Branch e.cond e.a e.b e.to) e.is in
      let p_at = x.shifted p (stands_at block_words g p) (exchanged_to shift.seams (stands_at block_words g p)) (stands_there block_words g p p_has) (shifted_is shift.seams (stands_at block_words g p) x.first x.second) in
      let n_at = x.shifted n (stands_at block_words g n) (exchanged_to shift.seams (stands_at block_words g n)) (stands_there block_words g n has) (shifted_is shift.seams (stands_at block_words g n) x.first x.second) in
      ap (λ (t : Bool). if t then 1 else 0)
      (ahead_fallen (carried g from to).blocks p n
      ∙ ahead_is block_words (carried g from to).blocks 0 p n (exchanged_to shift.seams (stands_at block_words g p)) (exchanged_to shift.seams (stands_at block_words g n)) (branch_word p e) p_at n_at)

  settled_at : (n : ℕ) → HasBlock g n → IsSettledTo shift (stands_at block_words g n) (stands_at block_words (fallen (carried g from to)) n)
  settled_at n has = m.stands n (stands_at block_words g n) (stands_at block_words (fallen (carried g from to)) n) (stands_there block_words g n has) (stands_there block_words (fallen (carried g from to)) n (there n has))

  module _ (wide : Wide) (are : AreWide g wide) where
    swollen_is : (n : ℕ) → HasBlock g n → stands_at (swollen (is_wide wide)) (fallen (carried g from to)) n ≡ swollen_to (stands_at block_words g) shift wide n
    swollen_is n has =
        let both = swell_both (fallen (carried g from to)) wide n h_rules.distinct are.apart (there n has) in
        let at = settled_is shift (stands_at block_words g n) (stands_at block_words (fallen (carried g from to)) n) x.first x.second (settled_at n has) in
        let one = same_ahead wide.one n (λ p e. are.branches p (or_left (is_it wide.one p) (is_it wide.other p) e)) has in
        let other = same_ahead wide.other n (λ p e. are.branches p (or_right (is_it wide.one p) (is_it wide.other p) e)) has in
        omega (arith, both, at, one, other)

    same_falls : (n : ℕ) → falls_short (fallen (carried g from to)) (is_wide wide) n ≡ is_short_by g shift wide n
    same_falls n =
        same_short (stands_at (swollen (is_wide wide)) (fallen (carried g from to))) (carried g from to) n
        ∙ sym (ordered_short (stands_at (swollen (is_wide wide)) (fallen (carried g from to))) g (carried g from to) x.same n)
        ∙ short_same g (stands_at (swollen (is_wide wide)) (fallen (carried g from to))) (swollen_to (stands_at block_words g) shift wide) n rules swollen_is

  pub settled_by : shift.falls ≤ 3 → IsSettled g (fallen (carried g from to)) shift
  settled_by few = record {
    first = x.first;
    second = x.second;
    few = x.few;
    falls = m.words ∙ carried_words g from to rules movable;
    few_fall = few;
    rules = h_rules;
    branches = still_branch;
    stands = settled_at;
    short = same_falls;
  }
