-- A moved chain: falling and joining at its seams alone makes the graph canonical.
use Rattle.std.proofs.Common.{◌≡◌, ℕ, ◌+◌, ◌≤◌, ◌==◌, Bool, true, false, ◌&&◌, ◌||◌, not, if◌then◌else◌, List, [], ◌∷◌, ◌++◌, None, Some, IsSome, inl, inr, refl, sym, ap, ◌∙◌, subst, arith}
use Rattle.std.proofs.lemmas.Bool.{cases_Bool, eqb-true, eqb-false, eq-eqb, ne_eqb}
use Rattle.std.proofs.lemmas.List.{append-nil}
use Rattle.std.proofs.lemmas.List.Elements.{All-cons, All-tail, All-append, All-weaker}
use Rattle.std.specs.List.{All, flat_map}
use Rattle.sq_arena.specs.Entries.{HasDistinctKeys, value_of, first_key, next_key}
use Rattle.sq_arena.proofs.EntriesLaws.{distinct_back}
use Rattle.sq_isa.specs.Registers.{is_among}
use Rattle.sq_graph.specs.declared.item.Term.{Term}
use Rattle.sq_graph.specs.declared.item.Term.TheVariants.{Fall, Jump, Branch, Call, PartJump, Indirect, Stop}
use Rattle.sq_graph.specs.Graph.{Block, Graph}
use Rattle.sq_graph.specs.Blocks.{named, block_term, term_of, next_of, all_items, items_of_bodies}
use Rattle.sq_graph.specs.Canonical.{canonical_of}
use Rattle.sq_graph.specs.Leaders.{is_bare, FallsIntoLeaders, IsCanonical}
use Rattle.sq_graph.specs.Operations.{with_blocks, with_term}
use Rattle.sq_graph.specs.Rules.{IsGraph}
use Rattle.sq_graph.specs.Uses.{term_uses, items_uses, terms_uses, uses}
use Rattle.sq_graph.specs.Words.{words_of}
use Rattle.sq_graph.proofs.BlockPasses.{falls_used}
use Rattle.sq_graph.proofs.CanonicalLaws.{falls_agree}
use Rattle.sq_graph.proofs.Changes.{with_blocks-at, items_of_blocks-kept}
use Rattle.sq_graph.proofs.Eachs.{All-left, All-right}
use Rattle.sq_graph.proofs.JoinedBefore.{joined_before_each, canonical_before}
use Rattle.sq_graph.proofs.Kept.{absent_behind}
use Rattle.sq_graph.proofs.Located.{located}
use Rattle.sq_graph.proofs.SlotReads.{block_at}
use Rattle.sq_graph.proofs.SplitRules.{flat_map-at, flat_map-changed}
use Rattle.sq_lookup.proofs.Adding.{uses_of_blocks}
use Rattle.sq_lookup.proofs.Targets.{has_term}
use Rattle.sq_chain.specs.Moves.{chain_end, IsMovable, JumpsTo, fallen_term, fallen_blocks, fallen, fallen_into, fallen_before, carried}
use Rattle.sq_lookup.specs.Counts.{count_at, times_named, AreUses, IsCounted}
use Rattle.sq_lookup.specs.declared.counts.Uses.{Uses}
use Rattle.sq_lookup.proofs.Counting.{times-append, times_in_items, times_held, used_same, uses_keep}
use Rattle.sq_chain.specs.Bare.{AreSolidBut, AreLed}
use Rattle.sq_chain.proofs.Fallen.{fall_keeps}
use Rattle.sq_lookup.proofs.Previous.{one_before}
use Rattle.sq_chain.proofs.Seaming.{times_exchanged, all_exchanged, Seamed, seamed_exchanged, seamed_more, seamed_first, falls_at_seams, falls_led, fallen_none, fallen_same, fallen_twice, fallen_items, times_fallen, IsMovedAt, moved_at}

-- ONE SEAM AFTER ANOTHER

abbrev pub fallen_before_each : List ℕ → Graph → Graph
fallen_before_each [] g = g
fallen_before_each (name ∷ names) g = fallen_before_each names (fallen_before g name)

same_eqb : (a b : ℕ) → (a == b) ≡ (b == a)
same_eqb a b =
    elim (cases_Bool (a == b)) [
      | inl here ↦ here ∙ sym (eq-eqb b a (sym (eqb-true a b here)))
      | inr apart ↦ apart ∙ sym (ne_eqb b a (λ same. eqb-false a b apart (sym same)))
    ]

pub fallen_each_is : (names : List ℕ) (g : Graph) → fallen_before_each names g ≡ record g { blocks = fallen_into (is_among names) g.blocks }
fallen_each_is [] g = ap (λ bs. record g { blocks = bs }) (sym (fallen_none g.blocks))
fallen_each_is (name ∷ names) g =
    fallen_each_is names (fallen_before g name)
    ∙ ap (λ bs. record g { blocks = bs })
    (fallen_twice (is_among names) (λ n. n == name) g.blocks
    ∙ fallen_same (λ n. is_among names n || n == name) (is_among (name ∷ names)) g.blocks (λ n. turned (is_among names n) (n == name) ∙ ap (λ t. t || is_among names n) (same_eqb n name)))
  where
    turned : (a b : Bool) → (a || b) ≡ (b || a)
    turned true true = refl
    turned true false = refl
    turned false true = refl
    turned false false = refl

module _ (g : Graph) (from to after behind : ℕ) (rules : IsGraph g) (canonical : IsCanonical g) (movable : IsMovable g from to) (stays : words_of (fallen g) ≡ words_of g) (after_is : (m : ℕ) → next_of g from ≡ Some m → after ≡ m) (behind_is : (m : ℕ) → next_of g (chain_end g to) ≡ Some m → behind ≡ m) where
  abbrev seams : List ℕ
  seams = after ∷ behind ∷ to ∷ []

  moved : IsMovedAt g from to (is_among seams)
  moved =
      moved_at g from to rules movable (is_among seams)
      (third (after == to) (behind == to) (to == to) (eq-eqb to to refl))
      (λ m next. first (after == m) (behind == m || (to == m || false)) (eq-eqb after m (after_is m next)))
      (λ m next. second (after == m) (behind == m) (to == m || false) (eq-eqb behind m (behind_is m next)))
    where
      first : (a b : Bool) → a ≡ true → (a || b) ≡ true
      first true b one = refl
      first false b one = absurd (cc)

      second : (a b c : Bool) → b ≡ true → (a || (b || c)) ≡ true
      second true b c one = refl
      second false true c one = refl
      second false false c one = absurd (cc)

      third : (a b c : Bool) → c ≡ true → (a || (b || (c || false))) ≡ true
      third true b c one = refl
      third false true c one = refl
      third false false true one = refl
      third false false false one = absurd (cc)

  seamed : Seamed (is_among seams) (is_among (uses g)) (carried g from to).blocks
  seamed =
      let leads = is_among (uses g) in
      let led = falls_used (uses g) g.blocks [] g.blocks refl rules.distinct canonical.leaders in
      seamed_exchanged (is_among seams) leads g.blocks (carried g from to).blocks moved.pieces moved.second moved.third moved.rest
      (seamed_more (is_among seams) leads g.blocks (seamed_first leads g.blocks led (omega (arith, stays))))

  pub fallen_is : fallen_before_each seams (carried g from to) ≡ fallen (carried g from to)
  fallen_is =
      fallen_each_is seams (carried g from to)
      ∙ ap (λ bs. record (carried g from to) { blocks = bs }) (falls_at_seams (is_among seams) (is_among (uses g)) (carried g from to).blocks seamed)

  pub uses_carried : (they : Uses) → AreUses g they → AreUses (carried g from to) they
  uses_carried they are =
      uses_keep g (carried g from to) they
      (λ n. times_in_items g (carried g from to).blocks n (times_exchanged (λ b. items_uses b.items) g.blocks (carried g from to).blocks moved.pieces n))
      (λ n. refl)
      (λ n. times_exchanged (λ b. term_uses b.term) g.blocks (carried g from to).blocks moved.pieces n)
      are

  -- no block is empty with Fall before
  pub solid_carried : All (λ b. is_bare b ≡ false) (carried g from to).blocks
  solid_carried = all_exchanged (λ b. is_bare b ≡ false) g.blocks (carried g from to).blocks moved.pieces canonical.no_bare

  still_used : (n : ℕ) → is_among seams n ≡ false → is_among (uses (fallen (carried g from to))) n ≡ is_among (uses g) n
  still_used n other =
      let u = carried g from to in
      let h = fallen_blocks u.blocks in
      let is = sym (falls_at_seams (is_among seams) (is_among (uses g)) u.blocks seamed) in
      let items : flat_map (λ (b : Block). items_uses b.items) (fallen_blocks (carried g from to).blocks) ≡ flat_map (λ (b : Block). items_uses b.items) (carried g from to).blocks =
      ap (λ bs. flat_map (λ (b : Block). items_uses b.items) bs) is
      ∙ uses_of_blocks (fallen_into (is_among seams) u.blocks) ∙ ap items_uses (fallen_items (is_among seams) u.blocks) ∙ sym (uses_of_blocks u.blocks) in
      used_same g (fallen u) n
      (times_held g h n (ap (λ us. times_named us n) items ∙ times_exchanged (λ b. items_uses b.items) g.blocks u.blocks moved.pieces n))
      (ap (λ bs. times_named (terms_uses bs) n) is ∙ times_fallen (is_among seams) u.blocks n other ∙ times_exchanged (λ b. term_uses b.term) g.blocks u.blocks moved.pieces n)

  led : FallsIntoLeaders (λ n. is_among seams n || is_among (uses (fallen (carried g from to))) n) (fallen (carried g from to)).blocks
  led =
      let u = carried g from to in
      let more : (n : ℕ) → (is_among seams n || is_among (uses g) n) ≡ true → (is_among seams n || is_among (uses (fallen (carried g from to))) n) ≡ true = λ n lead.
      elim (cases_Bool (is_among seams n)) [
        | inl seam ↦ rw seam refl
        | inr other ↦ rw other (still_used n other ∙ rw other at lead)
      ] in
      falls_agree (λ n. is_among seams n || is_among (uses g) n) (λ n. is_among seams n || is_among (uses (fallen u)) n) (fallen u).blocks more
      (falls_led (is_among seams) (is_among (uses g)) u.blocks seamed)

  -- where a graph has the same canonical graph, no block that is empty with Fall, and blocks that are led as in the fallen one
  pub joined_is : (w d : Graph) → IsGraph d → canonical_of d ≡ canonical_of w → AreSolidBut (λ n. false) d → ((leads : ℕ → Bool) → AreLed leads (fallen (carried g from to)) → AreLed leads d) → canonical_of w ≡ joined_before_each seams d
  joined_is w d d_rules same solid leds = sym same ∙ canonical_before seams d d_rules solid (leds (is_among seams) led)

-- ONE BLOCK

-- no Jump to this block is one to the next slot
fallen_stays_in : (bs : List Block) (n : ℕ) → HasDistinctKeys (named bs) → ((m : ℕ) → next_key (named bs) m ≡ Some n → block_term (value_of (named bs) m) ≡ Some (Jump n) → ⊥) → fallen_into (λ m. m == n) bs ≡ bs
fallen_stays_in [] n distinct none = refl
fallen_stays_in (b ∷ []) n distinct none = refl
fallen_stays_in (b ∷ next ∷ rest) n distinct none =
    ap (λ bs. (if next.name == n then record b { term = fallen_term next.name b.term } else b) ∷ bs) (fallen_stays_in (next ∷ rest) n (distinct_back ((b.name, b) ∷ []) (named (next ∷ rest)) distinct) later)
    ∙ ap (λ c. c ∷ next ∷ rest)
    (elim (cases_Bool (next.name == n)) [
      | inr apart ↦ rw apart refl
      | inl here ↦
          rw here
          (ap (λ t. record b { term = t })
          (other_term next.name b.term
          (λ jump.
          let own = eq-eqb b.name b.name refl in
          let is = eqb-true next.name n here in
          none b.name (rw own (ap Some is)) (rw own (ap Some (jump ∙ ap Jump is))))))
    ])
  where
    other_term : (k : ℕ) (t : Term) → (t ≡ Jump k → ⊥) → fallen_term k t ≡ t
    other_term k Fall other = refl
    other_term k (Jump to) other =
        elim (cases_Bool (to == k)) [ inl same ↦ absurd (other (ap Jump (eqb-true to k same))) | inr apart ↦ rw apart refl ]
    other_term k (Branch c x y to) other = refl
    other_term k (Call link to) other = refl
    other_term k (PartJump link part to) other = refl
    other_term k (Indirect link x offset) other = refl
    other_term k (Stop word) other = refl

    later : (m : ℕ) → next_key (named (next ∷ rest)) m ≡ Some n → block_term (value_of (named (next ∷ rest)) m) ≡ Some (Jump n) → ⊥
    later m slot is =
        elim (cases_Bool (b.name == m)) [
          | inr apart ↦ none m (rw apart slot) (rw apart is)
          | inl same ↦
              let gone : value_of (named (next ∷ rest)) m ≡ None = subst (λ k. value_of (named (next ∷ rest)) k ≡ None) (eqb-true b.name m same) (absent_behind (b.name, b) (named (next ∷ rest)) distinct) in
              absurd (cc (ap block_term gone, is))
        ]

pub fallen_stays : (g : Graph) (n : ℕ) → IsGraph g → ((m : ℕ) → next_of g m ≡ Some n → term_of g m ≡ Some (Jump n) → ⊥) → fallen_before g n ≡ g
fallen_stays g n rules none = ap (λ bs. record g { blocks = bs }) (fallen_stays_in g.blocks n rules.distinct none)

abbrev falls : Block → List Block
falls b = record b { term = Fall } ∷ []

-- another term keeps the names
first_kept : (bs : List Block) (m : ℕ) → first_key (named (with_blocks falls bs m)) ≡ first_key (named bs)
first_kept [] m = refl
first_kept (b ∷ rest) m = elim (cases_Bool (b.name == m)) [ inl here ↦ rw here refl | inr apart ↦ rw apart refl ]

next_kept : (bs : List Block) (m k : ℕ) → next_key (named (with_blocks falls bs m)) k ≡ next_key (named bs) k
next_kept [] m k = refl
next_kept (b ∷ rest) m k =
    elim (cases_Bool (b.name == m)) [
      | inl here ↦ rw here refl
      | inr apart ↦
          rw apart
          (elim (cases_Bool (b.name == k)) [
            | inl same ↦ rw same (first_kept rest m)
            | inr other ↦ rw other (next_kept rest m k)
          ])
    ]

falls_now : (bs : List Block) (m : ℕ) → IsSome (value_of (named bs) m) → block_term (value_of (named (with_blocks falls bs m)) m) ≡ Some Fall
falls_now [] m some = absurd (cc)
falls_now (b ∷ rest) m some =
    elim (cases_Bool (b.name == m)) [ inl here ↦ rw (here, here) refl | inr apart ↦ rw (apart, apart) (falls_now rest m (rw apart at some)) ]

-- a block ahead of others falls by the name of the first of them
fallen_ahead : (P : ℕ → Bool) (b : Block) (k : ℕ) (bs : List Block) → first_key (named bs) ≡ Some k → fallen_into P (b ∷ bs) ≡ (if P k then record b { term = fallen_term k b.term } else b) ∷ fallen_into P bs
fallen_ahead P b k [] first = absurd (cc)
fallen_ahead P b k (next ∷ rest) first =
    let is : next.name ≡ k = cc in
    ap (λ n. (if P n then record b { term = fallen_term n b.term } else b) ∷ fallen_into P (next ∷ rest)) is

fall_absorbed : (bs : List Block) (m n : ℕ) → next_key (named bs) m ≡ Some n → block_term (value_of (named bs) m) ≡ Some (Jump n) → fallen_into (λ k. k == n) (with_blocks falls bs m) ≡ fallen_into (λ k. k == n) bs
fall_absorbed [] m n slot jump = absurd (cc)
fall_absorbed (b ∷ []) m n slot jump =
    elim (cases_Bool (b.name == m)) [ inl here ↦ absurd (cc (rw here at slot)) | inr apart ↦ absurd (cc (rw apart at jump)) ]
fall_absorbed (b ∷ next ∷ rest) m n slot jump =
    elim (cases_Bool (b.name == m)) [
      | inl here ↦
          let first : Some next.name ≡ Some n = rw here at slot in
          let is : next.name ≡ n = cc in
          let some : Some b.term ≡ Some (Jump n) = rw here at jump in
          let term : b.term ≡ Jump n = cc in
          let fell : fallen_term next.name b.term ≡ Fall = ap (fallen_term next.name) term ∙ ap (λ t. if t then Fall else Jump n) (eq-eqb n next.name (sym is)) in
          rw (here, eq-eqb next.name n is) (ap (λ t. record b { term = t } ∷ fallen_into (λ k. k == n) (next ∷ rest)) (sym fell))
      | inr apart ↦
          rw apart
          (fallen_ahead (λ k. k == n) b next.name (with_blocks falls (next ∷ rest) m) (first_kept (next ∷ rest) m)
          ∙ ap (λ bs. (if next.name == n then record b { term = fallen_term next.name b.term } else b) ∷ bs) (fall_absorbed (next ∷ rest) m n (rw apart at slot) (rw apart at jump)))
    ]

module _ (g : Graph) (m n : ℕ) (rules : IsGraph g) (slot : next_of g m ≡ Some n) (jump : term_of g m ≡ Some (Jump n)) where
  fell_rules : IsGraph (with_term g m Fall)
  fell_rules = (fall_keeps g m n rules jump slot).rules

  pub fell_term : term_of (with_term g m Fall) m ≡ Some Fall
  fell_term = falls_now g.blocks m (has_term g m (Jump n) jump)

  pub fell : with_term g m Fall ≡ fallen_before g n
  fell =
      let h : Graph = with_term g m Fall in
      let follows : next_of (with_term g m Fall) m ≡ Some n = next_kept g.blocks m m ∙ slot in
      sym (fallen_stays h n fell_rules (λ k next other. let same = one_before h m k n fell_rules follows next in let both : Some Fall ≡ Some (Jump n) = sym fell_term ∙ ap (term_of h) same ∙ other in cc))
      ∙ ap (λ bs. record g { blocks = bs }) (fall_absorbed g.blocks m n slot jump)

  -- one use less
  pub times_fell : (k : ℕ) → (if n == k then 1 else 0) + times_named (terms_uses (with_term g m Fall).blocks) k ≡ times_named (terms_uses g.blocks) k
  times_fell k =
      let at = located g.blocks m (has_term g m (Jump n) jump) in
      let term : at.block.term ≡ Jump n = let same : Some at.block.term ≡ Some (Jump n) = sym (ap block_term (block_at g.blocks m at)) ∙ jump in cc in
      let own : times_named (term_uses at.block.term) k ≡ (if n == k then 1 else 0) + 0 = ap (λ t. times_named (term_uses t) k) term in
      omega (
        arith,
        own,
        ap (λ us. times_named us k) (flat_map-at (λ b. term_uses b.term) g.blocks m at),
        ap (λ us. times_named us k) (flat_map-changed (λ b. term_uses b.term) (λ b. record b { term = Fall } ∷ []) g.blocks m at),
        times-append (terms_uses at.front) (term_uses at.block.term ++ terms_uses at.back) k,
        times-append (term_uses at.block.term) (terms_uses at.back) k,
        times-append (terms_uses at.front) ([] ++ terms_uses at.back) k,
      )

  pub uses_fell : (old new : Uses) → AreUses g old → IsCounted n new old → AreUses (with_term g m Fall) new
  uses_fell old new are one =
      let at = located g.blocks m (has_term g m (Jump n) jump) in
      let items : all_items (with_term g m Fall) ≡ all_items g =
      ap (λ is. is ++ items_of_bodies g.procedures) (items_of_blocks-kept (λ b. record b { term = Fall } ∷ []) g.blocks m at (append-nil at.block.items)) in
      record {
        items = λ k. ap (λ is. count_at is.items k) (sym one.items) ∙ are.items k ∙ ap (λ is. times_named (items_uses is) k) (sym items);
        words = λ k. ap (λ ws. count_at ws.items k) (sym one.words) ∙ are.words k;
        terms = λ k. omega (arith, one.terms k, are.terms k, times_fell k);
      }

  -- the name was counted
  pub counted : (they : Uses) → AreUses g they → 1 ≤ count_at they.terms.items n
  counted they are =
      let one : ◌≡◌ {A = ℕ} (if n == n then 1 else 0) 1 = ap (λ t. if t then 1 else 0) (eq-eqb n n refl) in
      omega (arith, are.terms n, times_fell n, one)

  -- no other block comes to be empty with Fall
  pub solid_fell : (may : ℕ → Bool) → AreSolidBut may g → AreSolidBut (λ k. m == k || may k) (with_term g m Fall)
  solid_fell may solid =
      let at = located g.blocks m (has_term g m (Jump n) jump) in
      let P : Block → Type 0 = λ b. (not (may b.name) && is_bare b) ≡ false in
      let Q : Block → Type 0 = λ b. (not (m == b.name || may b.name) && is_bare b) ≡ false in
      let more : (b : Block) → (not (may b.name) && is_bare b) ≡ false → (not (m == b.name || may b.name) && is_bare b) ≡ false = λ b own. weaker (m == b.name) (may b.name) (is_bare b) own in
      let all : All P (at.front ++ at.block ∷ at.back) = subst (λ (bs : List Block). All P bs) at.whole solid in
      let c : Block = record at.block { term = Fall } in
      let now = with_blocks-at (λ b. record b { term = Fall } ∷ []) g.blocks m at in
      let here : (m == at.block.name) ≡ true = eq-eqb m at.block.name (sym at.has_name) in
      subst (λ (bs : List Block). All Q bs) (sym now)
      (All-append Q at.front (c ∷ at.back) (All-weaker P Q more at.front (All-left P at.front (at.block ∷ at.back) all))
      (All-cons Q c at.back (rw here refl) (All-weaker P Q more at.back (All-tail P at.block at.back (All-right P at.front (at.block ∷ at.back) all)))))
    where
      weaker : (a b e : Bool) → (not b && e) ≡ false → (not (a || b) && e) ≡ false
      weaker true b e own = refl
      weaker false b e own = own

pub jump_here : (g : Graph) (m n : ℕ) (t : Term) → term_of g m ≡ Some t → JumpsTo t (Some n) → term_of g m ≡ Some (Jump n)
jump_here g m n t is j =
    let same : n ≡ j.to = let e : Some n ≡ Some j.to = j.slot in cc in
    is ∙ ap Some j.jump ∙ ap (λ k. Some (Jump k)) (sym same)

pub jumps_here : (g : Graph) (m n : ℕ) (t : Term) → term_of g m ≡ Some t → term_of g m ≡ Some (Jump n) → JumpsTo t (Some n)
jumps_here g m n t is jump = let same : Some t ≡ Some (Jump n) = sym is ∙ jump in record { to = n; jump = cc; slot = refl }
