-- Row J3 keeps a canonical graph canonical.
use Rattle.std.proofs.Common.{◌≡◌, ◌⊎◌, ℕ, Bool, true, false, not, ◌||◌, List, [], ◌∷◌, None, Some, inl, inr, refl, sym, ap, ◌∙◌, subst, ◌==◌, ◌++◌, ◌&&◌, append_assoc}
use Rattle.std.specs.List.{All}
use Rattle.std.proofs.lemmas.Bool.{or_left, or_right, or_cases}
use Rattle.std.proofs.Math.Bool.{and-false}
use Rattle.sq_isa.specs.declared.instructions.Cond.{Cond}
use Rattle.sq_isa.specs.Branches.{inverse_of}
use Rattle.sq_graph.specs.declared.item.Item.{Item}
use Rattle.sq_graph.specs.declared.item.Term.TheVariants.{Branch, Jump}
use Rattle.sq_graph.specs.Graph.{Graph, Block}
use Rattle.sq_graph.specs.Blocks.{next_of, named, block_of, block_term, items_of_blocks, items_of_bodies}
use Rattle.sq_graph.specs.Operations.{with_blocks}
use Rattle.sq_graph.specs.Rules.{IsGraph}
use Rattle.sq_graph.specs.Terms.{goes_on}
use Rattle.sq_graph.specs.Uses.{uses, term_uses, items_uses, terms_uses, code_word_uses}
use Rattle.law_patch.specs.LoneJumps.{IsJumpedOver, inverted_over}
use Rattle.sq_jumps.specs.Invert.{BranchesOverJump, inverted}
use Rattle.sq_lookup.proofs.Targets.{has_term, lone, IsLone}
use Rattle.std.proofs.lemmas.List.Elements.{All-cons, All-append, All-tail}
use Rattle.sq_arena.specs.Entries.{value_of, HasDistinctKeys}
use Rattle.sq_graph.proofs.Located.{located, IsAt, named-append}
use Rattle.sq_graph.proofs.SlotReads.{block_at}
use Rattle.sq_arena.proofs.EntriesLaws.{distinct_back}
use Rattle.sq_graph.proofs.Kept.{absent_behind}
use Rattle.sq_num.specs.declared.packed.Savings.{Savings}
use Rattle.sq_graph.specs.Leaders.{IsCanonical, FallsIntoLeaders, has_no_items, is_fall, is_bare, follows_a_term, is_leader}
use Rattle.sq_isa.specs.Registers.{is_among}
use Rattle.sq_pass.specs.declared.cut.Row.TheVariants.{J3}
use Rattle.sq_pass.specs.Counted.{counted}
use Rattle.sq_pass.specs.Rewrites.{IsRewritten}
use Rattle.sq_jumps.specs.Candidates.{IsCandidate, described}
use Rattle.sq_graph.proofs.Changes.{with_blocks-at}
use Rattle.sq_graph.proofs.Marks.{is_among-append}
use Rattle.sq_graph.proofs.Eachs.{All-left, All-right}
use Rattle.sq_jumps.proofs.Booleans.{other_way, one_of_four}
use Rattle.sq_jumps.proofs.Leaders.{absent_tail, absent_parts, falls_on, three_uses}
use Rattle.sq_jumps.proofs.Blocks.{HasFirst, first_is}
use Rattle.sq_jumps.proofs.InvertApplied.{invert_made, invert_applied}
use Rattle.sq_jumps.proofs.Rewritten.{kept_rewritten}
use Rattle.sq_jumps.proofs.Ruled.{behind_it, here, block_found}

-- A BRANCH OVER A LONE JUMP, AND THE INVERTED ONE

module _ (name over to a b : ℕ) (cond new : Cond) (items : List Item) (n : Block) (back : List Block) where
  abbrev pub branching : Block
  branching = record { name = name; items = items; term = Branch cond a b n.name }

  abbrev pub jumping : Block
  jumping = record { name = over; items = []; term = Jump to }

  abbrev pub turned : Block
  turned = record { name = name; items = items; term = Branch new a b to }

  items_same : (front : List Block) → items_of_blocks (front ++ turned ∷ n ∷ back) ≡ items_of_blocks (front ++ branching ∷ jumping ∷ n ∷ back)
  items_same [] = refl
  items_same (c ∷ front) = ap (λ (is : List Item). c.items ++ is) (items_same front)

  -- the Branch names the Jump's target, and the slot behind is named no more
  named_still : (front : List Block) (k : ℕ) → is_among (terms_uses (front ++ branching ∷ jumping ∷ n ∷ back)) k ≡ true → (is_among (terms_uses (front ++ turned ∷ n ∷ back)) k ≡ true) ⊎ ((n.name == k) ≡ true)
  named_still [] k e = elim (or_cases (n.name == k) (is_among (terms_uses (turned ∷ n ∷ back)) k) e) [ inl here ↦ inr here | inr still ↦ inl still ]
  named_still (c ∷ front) k e =
      let old = terms_uses (front ++ branching ∷ jumping ∷ n ∷ back) in
      let left = terms_uses (front ++ turned ∷ n ∷ back) in
      let own = is_among (term_uses c.term) k in
      elim (or_cases (is_among (term_uses c.term) k) (is_among (terms_uses (front ++ branching ∷ jumping ∷ n ∷ back)) k) (sym (is_among-append (term_uses c.term) old k) ∙ e)) [
        | inl here ↦ inl (is_among-append (term_uses c.term) left k ∙ or_left own (is_among left k) here)
        | inr later ↦
            elim (named_still front k later) [
              | inl still ↦ inl (is_among-append (term_uses c.term) left k ∙ or_right own (is_among left k) still)
              | inr behind ↦ inr behind
            ]
      ]

  -- the slot behind stands behind a Branch still
  behind_branch : (front : List Block) (k : ℕ) → (n.name == k) ≡ true → follows_a_term (front ++ turned ∷ n ∷ back) k ≡ true
  behind_branch [] k here = or_left (n.name == k) (follows_a_term (n ∷ back) k) here
  behind_branch (c ∷ []) k here = or_right (goes_on c.term && not (is_fall c.term) && name == k) (follows_a_term (turned ∷ n ∷ back) k) (behind_branch [] k here)
  behind_branch (c ∷ d ∷ front) k here = or_right (goes_on c.term && not (is_fall c.term) && d.name == k) (follows_a_term (d ∷ (front ++ turned ∷ n ∷ back)) k) (behind_branch (d ∷ front) k here)

  follows_still : (front : List Block) (k : ℕ) → (over == k) ≡ false → follows_a_term (front ++ branching ∷ jumping ∷ n ∷ back) k ≡ true → follows_a_term (front ++ turned ∷ n ∷ back) k ≡ true
  follows_still [] k apart e = or_right (n.name == k) (follows_a_term (n ∷ back) k) (rw apart at e)
  follows_still (c ∷ []) k apart e =
      let own = goes_on c.term && not (is_fall c.term) && name == k in
      elim (or_cases (goes_on c.term && not (is_fall c.term) && name == k) (follows_a_term (branching ∷ jumping ∷ n ∷ back) k) e) [
        | inl here ↦ or_left own (follows_a_term (turned ∷ n ∷ back) k) here
        | inr later ↦ or_right own (follows_a_term (turned ∷ n ∷ back) k) (follows_still [] k apart later)
      ]
  follows_still (c ∷ d ∷ front) k apart e =
      let own = goes_on c.term && not (is_fall c.term) && d.name == k in
      elim (or_cases (goes_on c.term && not (is_fall c.term) && d.name == k) (follows_a_term (d ∷ (front ++ branching ∷ jumping ∷ n ∷ back)) k) e) [
        | inl here ↦ or_left own (follows_a_term (d ∷ (front ++ turned ∷ n ∷ back)) k) here
        | inr later ↦ or_right own (follows_a_term (d ∷ (front ++ turned ∷ n ∷ back)) k) (follows_still (d ∷ front) k apart later)
      ]

  solid_still : (front : List Block) → All (λ c. is_bare c ≡ false) (front ++ branching ∷ jumping ∷ n ∷ back) → All (λ c. is_bare c ≡ false) (front ++ turned ∷ n ∷ back)
  solid_still front all =
      let P : Block → Type 0 = λ c. is_bare c ≡ false in
      let rest = All-tail P branching (jumping ∷ n ∷ back) (All-right P front (branching ∷ jumping ∷ n ∷ back) all) in
      All-append P front (turned ∷ n ∷ back) (All-left P front (branching ∷ jumping ∷ n ∷ back) all)
      (All-cons P turned (n ∷ back) (and-false (has_no_items items)) (All-tail P jumping (n ∷ back) rest))

  module _ (leads others : ℕ → Bool) (more : (k : ℕ) → (k == over) ≡ false → leads k ≡ true → others k ≡ true) (name_apart : (name == over) ≡ false) (back_apart : value_of (named (n ∷ back)) over ≡ None) where
    falls_here : FallsIntoLeaders leads (branching ∷ jumping ∷ n ∷ back) → FallsIntoLeaders others (turned ∷ n ∷ back)
    falls_here falls = (λ fall. absurd (cc), falls_on over leads others more (n ∷ back) back_apart falls.1.1)

    falls_still : (front : List Block) → value_of (named front) over ≡ None → FallsIntoLeaders leads (front ++ branching ∷ jumping ∷ n ∷ back) → FallsIntoLeaders others (front ++ turned ∷ n ∷ back)
    falls_still [] none falls = falls_here falls
    falls_still (c ∷ []) none falls = (λ fall. more name name_apart (falls.0 fall), falls_here falls.1)
    falls_still (c ∷ d ∷ front) none falls =
        let later = (absent_tail c (d ∷ front) over none).1 in
        (λ fall. more d.name (absent_tail d front over later).0 (falls.0 fall), falls_still (d ∷ front) later falls.1)

  module _ (g : Graph) (front : List Block) where
    abbrev before : Graph
    before = record g { blocks = front ++ branching ∷ jumping ∷ n ∷ back }

    abbrev after : Graph
    after = record g { blocks = front ++ turned ∷ n ∷ back }

    used_still : (k : ℕ) → is_among (uses before) k ≡ true → (is_among (uses after) k ≡ true) ⊎ ((n.name == k) ≡ true)
    used_still k e =
        let words = code_word_uses g.code_words in
        let old_terms = terms_uses (front ++ branching ∷ jumping ∷ n ∷ back) in
        let terms = terms_uses (front ++ turned ∷ n ∷ back) in
        let old_items = items_uses (items_of_blocks (front ++ branching ∷ jumping ∷ n ∷ back) ++ items_of_bodies g.procedures) in
        let new_items = items_uses (items_of_blocks (front ++ turned ∷ n ∷ back) ++ items_of_bodies g.procedures) in
        let same : is_among new_items k ≡ is_among old_items k = ap (λ (is : List Item). is_among (items_uses (is ++ items_of_bodies g.procedures)) k) (items_same front) in
        let parts : (g.entry == k || (is_among words k || (is_among old_terms k || is_among old_items k))) ≡ true =
        sym (ap (λ t. g.entry == k || t) (three_uses words old_terms old_items k)) ∙ e in
        elim (one_of_four ((n.name == k) ≡ true) (g.entry == k) (is_among words k) (is_among old_terms k) (is_among terms k) (is_among old_items k) (named_still front k) parts) [
          | inl still ↦
              inl (ap (λ t. g.entry == k || t) (three_uses words terms new_items k) ∙ ap (λ t. g.entry == k || (is_among words k || (is_among terms k || t))) same ∙ still)
          | inr behind ↦ inr behind
        ]

    leads_still : (k : ℕ) → (k == over) ≡ false → is_leader before k ≡ true → is_leader after k ≡ true
    leads_still k apart e =
        let used = is_among (uses after) k in
        let follows = follows_a_term (front ++ turned ∷ n ∷ back) k in
        elim (or_cases (is_among (uses before) k) (follows_a_term (front ++ branching ∷ jumping ∷ n ∷ back) k) e) [
          | inl uses_it ↦
              elim (used_still k uses_it) [
                | inl still ↦ or_left used follows still
                | inr behind ↦ or_right used follows (behind_branch front k behind)
              ]
          | inr follows_it ↦ or_right used follows (follows_still front k (other_way k over apart) follows_it)
        ]

    pub turned_canonical : (name == over) ≡ false → value_of (named front) over ≡ None → value_of (named (n ∷ back)) over ≡ None → IsCanonical before → IsCanonical after
    turned_canonical name_apart front_apart back_apart canonical = record {
      no_bare = solid_still front canonical.no_bare;
      leaders = falls_still (is_leader before) (is_leader after) leads_still name_apart back_apart front front_apart canonical.leaders;
    }

-- WHERE THEY STAND

pub record StandsOver (g : Graph) (block : ℕ) (cond : Cond) (a b over to : ℕ) : Type 0 where
  pub front : List Block
  pub items : List Item
  pub n : Block
  pub back : List Block
  pub whole : g.blocks ≡ front ++ branching block over to a b cond cond items n back ∷ jumping block over to a b cond cond items n back ∷ n ∷ back
  pub block_ahead : value_of (named front) block ≡ None
  pub over_ahead : value_of (named front) over ≡ None
  pub over_apart : (block == over) ≡ false
  pub over_behind : value_of (named (n ∷ back)) over ≡ None

module _ (g : Graph) (block : ℕ) (cond : Cond) (a b over behind to : ℕ) (rules : IsGraph g) (jumped : IsJumpedOver g block cond a b over behind to) where
  spot : IsAt g.blocks block
  spot = located g.blocks block (has_term g block (Branch cond a b behind) jumped.branch)

  term_is : spot.block.term ≡ Branch cond a b behind
  term_is = let same : Some spot.block.term ≡ Some (Branch cond a b behind) = sym (ap block_term (block_at g.blocks block spot)) ∙ jumped.branch in cc

  next : HasFirst spot.back over
  next = first_is spot.back over (sym (behind_it g.blocks block spot) ∙ jumped.next)

  placed : (spot.front ++ spot.block ∷ []) ++ (next.block ∷ next.rest) ≡ g.blocks
  placed = append_assoc spot.front (spot.block ∷ []) (next.block ∷ next.rest) ∙ sym (spot.whole ∙ ap (λ bs. spot.front ++ spot.block ∷ bs) next.is)

  spot_over : IsAt g.blocks next.block.name
  spot_over = here g rules (spot.front ++ spot.block ∷ []) next.block next.rest placed

  alone : IsLone g over to
  alone = lone g over to jumped.jump

  over_is : next.block ≡ alone.block
  over_is = let same : Some next.block ≡ Some alone.block = sym (block_found g rules (spot.front ++ spot.block ∷ []) next.block next.rest placed) ∙ ap (block_of g) next.has_name ∙ alone.found in cc

  third : HasFirst next.rest behind
  unfolding here spot_over
  third = first_is next.rest behind (sym (behind_it g.blocks next.block.name spot_over) ∙ ap (next_of g) next.has_name ∙ jumped.slot)

  ahead : value_of (named (spot.front ++ spot.block ∷ [])) next.block.name ≡ None
  unfolding here spot_over
  ahead = spot_over.ahead

  none_behind : value_of (named next.rest) next.block.name ≡ None
  none_behind =
      absent_behind (next.block.name, next.block) (named next.rest)
      (distinct_back (named (spot.front ++ spot.block ∷ [])) (named (next.block ∷ next.rest))
      (subst (λ (es : List (ℕ × Block)). HasDistinctKeys es) (ap named (sym placed) ∙ named-append (spot.front ++ spot.block ∷ []) (next.block ∷ next.rest)) rules.distinct))

  apart : (value_of (named spot.front) over ≡ None) × (value_of (named (spot.block ∷ [])) over ≡ None)
  apart = absent_parts spot.front (spot.block ∷ []) over (subst (λ k. value_of (named (spot.front ++ spot.block ∷ [])) k ≡ None) next.has_name ahead)

  first_block : spot.block ≡ branching block over to a b cond cond spot.block.items third.block third.rest
  first_block = λ i. record { name = spot.has_name i; items = spot.block.items; term = (term_is ∙ ap (Branch cond a b) (sym third.has_name)) i }

  second_block : next.block ≡ jumping block over to a b cond cond spot.block.items third.block third.rest
  second_block = over_is ∙ (λ i. record { name = (sym (ap (λ (c : Block). c.name) over_is) ∙ next.has_name) i; items = alone.items i; term = alone.term i })

  pub stands_over : StandsOver g block cond a b over to
  stands_over = record {
    front = spot.front;
    items = spot.block.items;
    n = third.block;
    back = third.rest;
    whole =
        spot.whole
        ∙ ap (λ bs. spot.front ++ spot.block ∷ bs) (next.is ∙ ap (λ bs. next.block ∷ bs) third.is)
        ∙ (λ i. spot.front ++ first_block i ∷ second_block i ∷ third.block ∷ third.rest);
    block_ahead = spot.ahead;
    over_ahead = apart.0;
    over_apart = subst (λ k. (k == over) ≡ false) spot.has_name (absent_tail spot.block [] over apart.1).0;
    over_behind = subst (λ bs. value_of (named bs) over ≡ None) third.is (subst (λ k. value_of (named next.rest) k ≡ None) next.has_name none_behind);
  }

-- THE GRAPH

module _ (g : Graph) (block : ℕ) (cond new : Cond) (a b over to : ℕ) (s : StandsOver g block cond a b over to) where
  abbrev one : Block
  one = branching block over to a b cond new s.items s.n s.back

  abbrev two : Block
  two = jumping block over to a b cond new s.items s.n s.back

  abbrev other : Block
  other = turned block over to a b cond new s.items s.n s.back

  ahead_turned : value_of (named (s.front ++ other ∷ [])) over ≡ None
  ahead_turned = by_front s.front s.over_ahead
    where
      by_front : (front : List Block) → value_of (named front) over ≡ None → value_of (named (front ++ other ∷ [])) over ≡ None
      by_front [] none = rw s.over_apart refl
      by_front (c ∷ front) none = let parts = absent_tail c front over none in rw parts.0 (by_front front parts.1)

  first_change : with_blocks (λ c. record c { term = Branch new a b to } ∷ []) g.blocks block ≡ s.front ++ other ∷ two ∷ s.n ∷ s.back
  first_change =
      with_blocks-at (λ c. record c { term = Branch new a b to } ∷ []) g.blocks block
      (record { front = s.front; block = one; back = two ∷ s.n ∷ s.back; whole = s.whole; has_name = refl; ahead = s.block_ahead })

  second_change : with_blocks (λ c. []) (s.front ++ other ∷ two ∷ s.n ∷ s.back) over ≡ (s.front ++ other ∷ []) ++ (s.n ∷ s.back)
  second_change =
      with_blocks-at (λ c. []) (s.front ++ other ∷ two ∷ s.n ∷ s.back) over
      (record { front = s.front ++ other ∷ []; block = two; back = s.n ∷ s.back; whole = sym (append_assoc s.front (other ∷ []) (two ∷ s.n ∷ s.back)); has_name = refl; ahead = ahead_turned })

  pub over_gone : with_blocks (λ c. []) (with_blocks (λ c. record c { term = Branch new a b to } ∷ []) g.blocks block) over ≡ s.front ++ other ∷ s.n ∷ s.back
  over_gone = ap (λ bs. with_blocks (λ c. []) bs over) first_change ∙ second_change ∙ append_assoc s.front (other ∷ []) (s.n ∷ s.back)

pub invert_canonical : (g : Graph) (block : ℕ) (cond : Cond) (a b over behind to : ℕ) → IsGraph g → IsJumpedOver g block cond a b over behind to → IsCanonical g → IsCanonical (inverted_over g block cond a b over to)
invert_canonical g block cond a b over behind to rules jumped canonical =
    let s = stands_over g block cond a b over behind to rules jumped in
    subst (λ bs. IsCanonical (record g { blocks = bs })) (sym (over_gone g block cond (inverse_of cond) a b over to s))
    (turned_canonical block over to a b cond (inverse_of cond) s.items s.n s.back g s.front s.over_apart s.over_ahead s.over_behind
    (subst (λ bs. IsCanonical (record g { blocks = bs })) s.whole canonical))

-- IN A SWEEP

pub invert_rewritten : (g h : Graph) (block : ℕ) (before after : Savings) → IsGraph g → IsCanonical g → BranchesOverJump g block → h ≡ inverted g block → after ≡ counted before J3 1 → IsRewritten IsCandidate described before after g h
invert_rewritten g h block before after rules canonical o is counts =
    kept_rewritten J3 block before after g h o (invert_applied g block rules o)
    (subst IsCanonical (sym (invert_made g block o.cond o.a o.b o.over o.behind o.to o.jumped)) (invert_canonical g block o.cond o.a o.b o.over o.behind o.to rules o.jumped canonical)) is counts
